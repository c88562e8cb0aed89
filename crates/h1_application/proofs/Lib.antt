pub mod ReplyLemmas
pub mod SettingLemmas
pub mod AtOnceLemmas
pub mod ReadLemmas
pub mod TimeLemmas
pub mod Words

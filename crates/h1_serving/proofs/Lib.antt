pub mod WaitLemmas
pub mod SinceLemmas
pub mod ServeLemmas
pub mod PlainCalls
pub mod PeerLemmas
pub mod WholeLemmas

mod LineLemmas
mod TextLemmas
mod NumberLemmas
mod FrontLemmas
mod WordsLemmas

mod Cuts
mod PortLemmas
mod GrammarLemmas

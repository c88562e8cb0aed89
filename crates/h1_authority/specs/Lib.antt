pub mod Bytes
pub mod PortSuffix
pub mod Scheme
pub mod RawTarget
pub mod ParsedAuthority
pub mod AuthorityFault
pub mod AuthorityGrammar

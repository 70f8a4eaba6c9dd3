pub mod ChainLemmas
pub mod RenewalLemmas

pub mod NumberLemmas
pub mod RangeLemmas
pub mod ScriptLemmas
pub mod SearchLemmas
pub mod TextLemmas
pub mod TicLemmas

pub mod KeyLemmas
pub mod CountLemmas

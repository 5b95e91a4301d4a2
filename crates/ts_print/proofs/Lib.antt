pub mod SpanLemmas
pub mod WrittenLemmas

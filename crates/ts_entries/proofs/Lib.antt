pub mod KeptLemmas
pub mod MemberLemmas
pub mod NameLemmas
pub mod OwnerLemmas
pub mod SupertypeLemmas

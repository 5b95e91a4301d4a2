mod FitLemmas
mod FormLemmas
mod KindLemmas
mod MentionLemmas
mod NameLemmas
mod ScopeLemmas

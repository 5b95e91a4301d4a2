-- Bytes that are read one piece after another, from a reader that may tell what it has left.
use Rattle.std.proofs.Common.{◌∙◌, sym, ap, ◌++◌, Option, Some, None, append_assoc}
use Rattle.std.specs.Io.KnownBytes.{Consumes}
use Rattle.ts_base.specs.Bytes.{Bytes}

pub consumes_more : (a b c : Option Bytes) (xs ys : Bytes)
    → Consumes a b xs → Consumes b c ys → Consumes a c (xs ++ ys)
consumes_more None b c xs ys p q = tt
consumes_more (Some a) None c xs ys p q = absurd p
consumes_more (Some a) (Some b) None xs ys p q = absurd q
consumes_more (Some a) (Some b) (Some c) xs ys p q =
    p ∙ ap (λ (rest : Bytes). xs ++ rest) q ∙ sym (append_assoc xs ys c)

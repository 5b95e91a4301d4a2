-- Bytes that are taken one piece after another.
use Rattle.std.proofs.Common.{◌≡◌, ◌∙◌, sym, ap, refl, ℕ, ◌+◌, ◌++◌, take, drop, append_assoc}
use Rattle.std.proofs.Common.{Option, Some, None}
use Rattle.std.specs.Option.{option_map}
use Rattle.std.proofs.Math.Seq.{take-add}
use Rattle.ts_base.specs.Bytes.{Bytes}
use Rattle.ts_io.specs.Outside.{Appends}

append_twice : (old : Option Bytes) (xs ys : Bytes)
    → option_map (λ taken. taken ++ ys) (option_map (λ taken. taken ++ xs) old)
    ≡ option_map (λ taken. taken ++ (xs ++ ys)) old
append_twice None xs ys = refl
append_twice (Some taken) xs ys = ap (λ (bytes : Bytes). Some bytes) (append_assoc taken xs ys)

-- The bytes up to `at`, and then `n` more.
pub appends_more : (a b c : Option Bytes) (at n : ℕ) (bytes : Bytes) → Appends a b (take at bytes)
    → Appends b c (take n (drop at bytes)) → Appends a c (take (at + n) bytes)
appends_more a b c at n bytes p q =
    q ∙ ap (option_map (λ taken. taken ++ take n (drop at bytes))) p
    ∙ append_twice a (take at bytes) (take n (drop at bytes))
    ∙ ap (λ (piece : Bytes). option_map (λ taken. taken ++ piece) a) (sym (take-add at n bytes))

-- Kinds of values: whole numbers as `parse` reads them.
use Rattle.std.proofs.Common.{◌≡◌, ◌∙◌, sym, ap, refl, ℕ, ◌+◌, ◌^◌, ◌<◌, ◌≤◌, Bool, true, false, cond, ◌==◌, ◌≢◌, nat_lt, List, [], ◌∷◌, length, get_or, drop, Some, None, Result, Ok, Err, ℤ, pos, neg_ℤ, w32, arith, ◌&&◌}
use Rattle.std.specs.Str.{all_ascii_digits}
use Rattle.std.specs.Str.Parse.{digits_value, ParsesSigned}
use Rattle.std.specs.Result.{result_ok, OkIff}
use Rattle.std.proofs.lemmas.Str.Parse.{IsNumeralModel, numerals_by_value, tells_all_ascii_digits, parse_signed_minus, parse_signed_plain}
use Rattle.std.proofs.lemmas.Bool.Decides.{nat_tests}
use Rattle.ts_base.specs.Bytes.{Bytes}
use Rattle.ts_ojson.specs.declared.value.OJson.{OJson}
use Rattle.ts_grammar_json.specs.Members.{items_json}
use Rattle.ts_grammar_json.specs.Kinds.{is_numeral_below, integer_of, positive_of, negative_of, some_of}

abbrev IsDigits : Bytes → Type 0
IsDigits ds = all_ascii_digits ds ≡ true

own : IsNumeralModel IsDigits (digits_value 10)
own = numerals_by_value IsDigits tells_all_ascii_digits

abbrev IsBelow : ℕ → Bytes → Type 0
IsBelow bound ds = IsDigits ds × (0 < length ds) × (digits_value 10 ds < bound)

three : (a b c : Bool) → ((a && b) && c) ≡ true → (a ≡ true) × (b ≡ true) × (c ≡ true)
three true true true h = (refl, refl, refl)
three true true false h = absurd (let apart : false ≡ true = h in cc)
three true false c h = absurd (let apart : false ≡ true = h in cc)
three false b c h = absurd (let apart : false ≡ true = h in cc)

below_true : (bound : ℕ) (ds : Bytes) → is_numeral_below bound ds ≡ true → IsBelow bound ds
below_true bound ds h =
    let parts = three (nat_lt 0 (length ds)) (all_ascii_digits ds) (nat_lt (digits_value 10 ds) bound) h in
    let some = parts.0 in
    let digits = parts.1 in
    let small = parts.2 in
    (digits, grind (arith, nat_tests), grind (arith, nat_tests))

true_below : (bound : ℕ) (ds : Bytes) → IsBelow bound ds → is_numeral_below bound ds ≡ true
true_below bound ds h =
    let digits = h.0 in let some = h.1 in let small = h.2 in
    grind (arith, nat_tests)

by_iff : {E : Type 0} (r : Result ℤ E) (bound : ℕ) (ds : Bytes) (v : ℤ) (b : Bool) → is_numeral_below bound ds ≡ b → OkIff r (IsBelow bound ds) v → result_ok r ≡ cond b (Some v) None
by_iff (Ok x) bound ds v true is h = let e : x ≡ v = h.1 in ap (λ (z : ℤ). Some z) e
by_iff (Ok x) bound ds v false is h = let apart : false ≡ true = sym is ∙ true_below bound ds h.0 in absurd (cc)
by_iff (Err e) bound ds v true is h = absurd (h (below_true bound ds is))
by_iff (Err e) bound ds v false is h = refl

iff_more : {E : Type 0} (r : Result ℤ E) (P Q : Type 0) (v : ℤ) → OkIff r P v → (P → Q) → (Q → P) → OkIff r Q v
iff_more (Ok x) P Q v h to from = (to h.0, h.1)
iff_more (Err e) P Q v h to from = λ q. h (from q)

minus_reads : {E : Type 0} (bs : Bytes) (r : Result ℤ E) → ParsesSigned w32 10 bs r → get_or bs 0 0 ≡ 45 → result_ok r ≡ negative_of (drop 1 bs)
minus_reads bs r h e =
    let ds = drop 1 bs in
    let law = parse_signed_minus own w32 bs r h e in
    by_iff r (2 ^ 31 + 1) ds (neg_ℤ (pos (digits_value 10 ds))) (is_numeral_below (2 ^ 31 + 1) ds) refl (iff_more r (IsDigits ds × (0 < length ds) × (digits_value 10 ds ≤ 2 ^ 31)) (IsBelow (2 ^ 31 + 1) ds) (neg_ℤ (pos (digits_value 10 ds))) law (λ p. (p.0, p.1, (let small = p.2 in omega arith))) (λ p. (p.0, p.1, (let small = p.2 in omega arith))))

plain_reads : {E : Type 0} (bs : Bytes) (r : Result ℤ E) → ParsesSigned w32 10 bs r → get_or bs 0 0 ≢ 43 → get_or bs 0 0 ≢ 45 → result_ok r ≡ positive_of bs
plain_reads bs r h p m = by_iff r (2 ^ 31) bs (pos (digits_value 10 bs)) (is_numeral_below (2 ^ 31) bs) refl (parse_signed_plain own w32 bs r h p m)

pub integer_reads : {E : Type 0} (bs : Bytes) (r : Result ℤ E) → ParsesSigned w32 10 bs r → (get_or bs 0 0 == 43) ≡ false → result_ok r ≡ integer_of bs
integer_reads bs r h unsigned = by (get_or bs 0 0 == 45) refl
  where
    p : get_or bs 0 0 ≢ 43
    p q = let apart : false ≡ true = sym unsigned ∙ (grind (arith, nat_tests)) in cc

    by : (b : Bool) → (get_or bs 0 0 == 45) ≡ b → result_ok r ≡ cond b (negative_of (drop 1 bs)) (positive_of bs)
    by true e = minus_reads bs r h (grind (arith, nat_tests))
    by false e = plain_reads bs r h p (λ q. let apart : false ≡ true = sym e ∙ (grind (arith, nat_tests)) in cc)

pub some_if : (js : List OJson) → (length js == 0) ≡ false → Some (items_json js) ≡ some_of (items_json js)
some_if [] h = absurd (let apart : true ≡ false = h in cc)
some_if (j ∷ js) h = refl

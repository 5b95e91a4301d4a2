-- The escapes of properties.
use Rattle.std.proofs.Common.{◌≡◌, ℕ, ◌+◌, ◌≤◌, Bool, true, false, ◌&&◌, ◌==◌, nat_le, take, drop, sym}
use Rattle.std.proofs.lemmas.Bool.{cond-true, eq-eqb, le-leb}
use Rattle.ucd_sets.specs.Loose.{normalize}
use Rattle.ts_pattern.specs.declared.property.Table.{Table}
use Rattle.ts_pattern.specs.declared.property.Table.TheVariants.{Any}
use Rattle.ts_pattern.specs.Characters.{Text, peek, is_name_char}
use Rattle.ts_pattern.specs.Escapes.{named, found, braced_name, short_name}

and_of : (a b : Bool) → a ≡ true → b ≡ true → (a && b) ≡ true
and_of true b e f = f
and_of false b e f = e

pub braced_found : (w : Text) (i : ℕ) (lacking : Bool) (table : Table) (k n : ℕ) → 1 ≤ n → peek w (k + n) ≡ 125 →
    found i lacking (k + n + 1) (named table (normalize (take n (drop k w)))) ≡ braced_name w i lacking table k n
braced_found w i lacking table k n some closed =
    sym (cond-true _ _ _ (and_of (nat_le 1 n) (peek w (k + n) == 125) (le-leb 1 n some) (eq-eqb (peek w (k + n)) 125 closed)))

pub short_found : (w : Text) (i : ℕ) (lacking : Bool) → is_name_char (peek w (i + 2)) ≡ true →
    found i lacking (i + 3) (named Any (normalize (take 1 (drop (i + 2) w)))) ≡ short_name w i lacking
short_found w i lacking e = sym (cond-true _ _ _ e)

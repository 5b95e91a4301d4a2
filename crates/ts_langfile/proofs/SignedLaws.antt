-- The law of signed numbers, in two's complement.
use Rattle.std.proofs.Common.{◌≡◌, refl, sym, ap, subst, ℕ, ℤ, ◌^◌, ◌<◌, arith}
use mir.ValLaws.{to_z-Fits, of_z_fits}
use Rattle.std.specs.Int.{w32, cast_signed, cast_unsigned, to_be_bytes}
use Rattle.std.specs.Int.RustNames.{FitsSigned}
use Rattle.std.proofs.lemmas.Int.{to_z-of_z, of_z-to_z}
use Rattle.ts_langfile.specs.Spelling.{signed32}
use Rattle.ts_langfile.specs.Parts.{signed32_at}
use Rattle.ts_langfile.proofs.LawLemmas.{Law, as_law, made_law, number32_law}

signed_fits : (n : ℕ) → n < 2 ^ 32 → FitsSigned w32 (cast_signed w32 n)
signed_fits n lt = to_z-Fits w32 n (record { fits = lt })

unsigned_below : (z : ℤ) → FitsSigned w32 z → cast_unsigned w32 z < 2 ^ 32
unsigned_below z fits = let f = of_z_fits w32 z fits in f.fits

pub signed_law : Law signed32_at signed32 (FitsSigned w32)
unfolding signed32_at
signed_law = as_law (made_law (cast_signed w32) signed32 number32_law (λ n lt. ap (to_be_bytes w32) (of_z-to_z w32 n lt)))
    (λ z right. subst (FitsSigned w32) (sym right.1) (signed_fits right.0 right.2))
    (λ z right. (cast_unsigned w32 z, sym (to_z-of_z w32 z right), unsigned_below z right))

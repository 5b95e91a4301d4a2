use Rattle.std.proofs.Common.{◌≡◌, ◌∙◌, sym, refl, inl, inr, ⊎_elim, true, false}
use Rattle.ts_tokens.proofs.kind.kind_of.Goals as goal

pub returns-then-is_among : goal.returns-then-is_among
returns-then-is_among c = λ g same. inl (inr ((same c.args.name.now).0 (c.is_among.ensures.0 c.if-is_among.true)), refl)

pub returns : goal.returns
returns c = λ g same. inr (
  λ hidden. ⊎_elim
      (λ low. let e : true ≡ false = sym (c.begins_low.ensures.1 low) ∙ c.if-begins_low.false in cc)
      (λ listed. let e : true ≡ false = sym (c.is_among.ensures.1 ((same c.args.name.now).1 listed)) ∙ c.if-is_among.false in cc)
      hidden,
  refl,
)

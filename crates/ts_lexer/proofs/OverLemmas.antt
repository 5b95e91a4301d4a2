-- Which of two tokens is taken at one length.
use Rattle.std.proofs.Common.{◌≡◌, ◌∙◌, sym, refl, subst, ℕ, ◌≤◌, ◌<◌, ◌⊎◌, inl, inr, Bool, true, false, ℤ, ◌<ℤ◌, arith}
use Rattle.std.specs.Cmp.{int_chain, int_ranks}
use Rattle.std.specs.Ordering.{MatchOrdering, int_cmp}
use Rattle.std.specs.declared.cmp.Ordering.{Ordering}
use Rattle.std.specs.declared.cmp.Ordering.TheVariants.{Less, Equal, Greater}
use Rattle.std.specs.Int.Signed.{<ℤ_irrefl}
use Rattle.std.proofs.Math.Dec.{leb}
use Rattle.std.proofs.lemmas.Bool.Decides.{leb_tells}
use Rattle.ts_core.specs.declared.symbol.Symbol.{Symbol}
use Rattle.ts_lexer.specs.declared.rules.Kind.{Kind}
use Rattle.ts_lexer.specs.Rules.{Over}

-- one number is less, the same or more
pub three_ways : (x y : ℤ) → (x <ℤ y) ⊎ ((x ≡ y) ⊎ (y <ℤ x))
three_ways x y = by (int_cmp x y) (int_ranks x y)
  where
    by : (o : Ordering) → MatchOrdering o (x <ℤ y) (x ≡ y) (y <ℤ x) → (x <ℤ y) ⊎ ((x ≡ y) ⊎ (y <ℤ x))
    by Less h = inl h
    by Equal h = inr (inl h)
    by Greater h = inr (inr h)

abbrev pub Lead : Bool → ℕ → Bool → ℕ → Type 0
Lead x k y j = ((x ≡ true) × (y ≡ false)) ⊎ ((x ≡ y) × (k ≤ j))

by_number : (x y : Bool) (k j : ℕ) → x ≡ y → Lead x k y j ⊎ ((Lead x k y j → ⊥) × Lead y j x k)
by_number x y k j e = by (leb_tells k j)
  where
    by : ((leb k j ≡ true) × (k ≤ j)) ⊎ ((leb k j ≡ false) × (j < k)) → Lead x k y j ⊎ ((Lead x k y j → ⊥) × Lead y j x k)
    by (inl (_, le)) = inl (inr (e, le))
    by (inr (_, lt)) = inr ((λ h. lacks h), inr (sym e, (omega arith)))
      where
        lacks : Lead x k y j → ⊥
        lacks (inl (a, b)) = let f : true ≡ false = sym a ∙ e ∙ b in cc
        lacks (inr (a, le)) = omega arith

pub lead_decides : (x y : Bool) (k j : ℕ) → Lead x k y j ⊎ ((Lead x k y j → ⊥) × Lead y j x k)
lead_decides true true k j = by_number true true k j refl
lead_decides false false k j = by_number false false k j refl
lead_decides true false k j = inl (inl (refl, refl))
lead_decides false true k j = inr ((λ h. lacks h), inl (refl, refl))
  where
    lacks : Lead false k true j → ⊥
    lacks (inl (a, b)) = cc
    lacks (inr (a, b)) = cc

pub lead_then : (x y z : Bool) (k j i : ℕ) → Lead x k y j → Lead y j z i → Lead x k z i
lead_then x y z k j i (inl (a, b)) (inl (c, d)) = let e : false ≡ true = sym b ∙ c in cc
lead_then x y z k j i (inl (a, b)) (inr (c, d)) = inl (a, sym c ∙ b)
lead_then x y z k j i (inr (a, b)) (inl (c, d)) = inl (a ∙ c, d)
lead_then x y z k j i (inr (a, b)) (inr (c, d)) = inr (a ∙ c, (omega arith))

pub over_self : (a : Kind) (s : Symbol) → Over a s a s
over_self a s = inr (refl, inr (refl, (omega arith)))

-- the first is taken before the second, or it is not, and the second is before the first
pub over_decides : (a b : Kind) (s t : Symbol) → Over a s b t ⊎ ((Over a s b t → ⊥) × Over b t a s)
over_decides a b s t = by (three_ways a.prec b.prec)
  where
    less : a.prec <ℤ b.prec → Over a s b t → ⊥
    less lt (inl more) = <ℤ_irrefl (int_chain a.prec b.prec a.prec lt more)
    less lt (inr (e, _)) = <ℤ_irrefl (subst (λ (z : ℤ). z <ℤ b.prec) e lt)

    same : a.prec ≡ b.prec → Lead a.literal s.0 b.literal t.0 ⊎ ((Lead a.literal s.0 b.literal t.0 → ⊥) × Lead b.literal t.0 a.literal s.0) → Over a s b t ⊎ ((Over a s b t → ⊥) × Over b t a s)
    same e (inl l) = inl (inr (e, l))
    same e (inr (lacks, l)) = inr ((λ h. not_over h), inr (sym e, l))
      where
        not_over : Over a s b t → ⊥
        not_over (inl more) = <ℤ_irrefl (subst (λ (z : ℤ). b.prec <ℤ z) e more)
        not_over (inr (_, h)) = lacks h

    by : (a.prec <ℤ b.prec) ⊎ ((a.prec ≡ b.prec) ⊎ (b.prec <ℤ a.prec)) → Over a s b t ⊎ ((Over a s b t → ⊥) × Over b t a s)
    by (inl lt) = inr ((λ h. less lt h), inl lt)
    by (inr (inl e)) = same e (lead_decides a.literal b.literal s.0 t.0)
    by (inr (inr gt)) = inl (inl gt)

pub over_then : (a b c : Kind) (s t u : Symbol) → Over a s b t → Over b t c u → Over a s c u
over_then a b c s t u (inl p) (inl q) = inl (int_chain c.prec b.prec a.prec q p)
over_then a b c s t u (inl p) (inr (e, q)) = inl (subst (λ (z : ℤ). z <ℤ a.prec) e p)
over_then a b c s t u (inr (e, p)) (inl q) = inl (subst (λ (z : ℤ). c.prec <ℤ z) (sym e) q)
over_then a b c s t u (inr (e, p)) (inr (f, q)) = inr (e ∙ f, lead_then a.literal b.literal c.literal s.0 t.0 u.0 p q)

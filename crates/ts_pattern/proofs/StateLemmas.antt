-- What the reader knows after one more sign, and at the end.
use Rattle.std.proofs.Common.{◌≡◌, ℕ, ◌<◌, ◌≤◌, Bool, true, false, ◌==◌, ◌&&◌, List, [], ◌∷◌, ◌++◌, map, length, Option, Some, None, refl, sym, ap, subst, ◌∙◌, arith, inl, inr, true≢false, if◌then◌else◌}
use Rattle.std.proofs.lemmas.Option.{none-some, same_Some}
use Rattle.ts_pattern.specs.declared.sight.Flaw.{Flaw}
use Rattle.ts_pattern.specs.declared.sight.Flaw.TheVariants.{Syntax, Unsupported}
use Rattle.ts_pattern.specs.declared.sign.Sign.{Sign}
use Rattle.ts_pattern.specs.declared.level.Level.{Level}
use Rattle.ts_pattern.specs.declared.state.State.{State}
use Rattle.ts_pattern.specs.Characters.{Text, peek}
use Rattle.ts_pattern.specs.Signs.{IsSign, IsNoSign}
use Rattle.ts_pattern.specs.Trees.{Token, Pattern}
use Rattle.ts_pattern.specs.Reads.{Means, IsTokenAt, Tokens, IsTree, is_quantifier, ends_quantified, Stops}
use Rattle.ts_pattern.specs.Machine.{Open, step, run_from, start, level_of, Follows}
use Rattle.ts_pattern.specs.States.{IsState}
use Rattle.ts_pattern.proofs.MachineLemmas.{run_append, begins, stuck, unfinished, finished}

tokens_push : (ignore_case : Bool) (w : Text) (ts : List Token) (i j k : ℕ) (t : Token) → Tokens ignore_case w i ts j → IsTokenAt ignore_case w j t k → Tokens ignore_case w i (ts ++ t ∷ []) k
tokens_push ignore_case w [] i j k t g h = (k, subst (λ (n : ℕ). IsTokenAt ignore_case w n t k) (sym g) h, refl)
tokens_push ignore_case w (x ∷ xs) i j k t g h = (g.0, g.1, tokens_push ignore_case w xs g.0 j k t g.2 h)

quantified_push : (before : Bool) (ts : List Token) (t : Token) → ends_quantified before (ts ++ t ∷ []) ≡ is_quantifier t
quantified_push before [] t = refl
quantified_push before (x ∷ xs) t = quantified_push (is_quantifier x) xs t

-- where something is kept, something can follow
followed : (o : Option Open) (l : Level) (outer : List Level) → Follows o (Some l) outer → (z : Open) × (o ≡ Some z) × (l ≡ level_of z.0) × (outer ≡ map level_of z.1)
followed None l outer f = absurd (none-some l (sym f))
followed (Some z) l outer f = (z, refl, same_Some _ _ f.0, f.1)

halted : (o : Option Open) (outer : List Level) → Follows o None outer → o ≡ None
halted None outer f = refl
halted (Some z) outer f = absurd (none-some (level_of z.0) f.0)

abbrev is_nil : {A : Type 0} → List A → Bool
is_nil [] = true
is_nil (x ∷ xs) = false

none_below : 0 < 0 → ⊥
none_below lt = omega (arith, lt)

pub nil_cons : {A : Type 0} (x : A) (xs : List A) → [] ≡ x ∷ xs → ⊥
nil_cons x xs e = true≢false (ap is_nil e)

some_cons : {A : Type 0} (xs : List A) → 0 < length xs → (x : A) × (ys : List A) × (xs ≡ x ∷ ys)
some_cons [] lt = absurd (none_below lt)
some_cons (x ∷ xs) lt = (x, xs, refl)

pub empty_stack : (xs : List Level) → length xs ≤ 0 → xs ≡ []
empty_stack [] le = refl
empty_stack (x ∷ xs) le = absurd (none_below (omega (arith, le)))

module _ (ignore_case : Bool) (w : Text) (s : State) (h : IsState ignore_case w s) where
  pub advanced : (sign : Sign) (next : ℕ) (t : Token) (l : Level) (outer : List Level) (q : Bool) → IsSign w s.at sign next → Means ignore_case sign t →
      Follows (step h.inner h.round t) (Some l) outer → q ≡ is_quantifier t → next ≤ length w →
      IsState ignore_case w (record { at = next; level = l; outer = outer; quantified = q })
  advanced sign next t l outer q g m f e le =
      let z = followed (step h.inner h.round t) l outer f in record {
        before = h.before ++ t ∷ [];
        inner = z.0.0;
        round = z.0.1;
        tokens = tokens_push ignore_case w h.before 0 s.at next t h.tokens (sign, g, m);
        run = run_append start h.before (t ∷ []) ∙ ap (λ (o : Option Open). run_from o (t ∷ [])) h.run ∙ ap (λ (o : Option Open). run_from o []) z.1;
        level = z.2;
        outer = z.3;
        quantified = e ∙ sym (quantified_push false h.before t);
        within = le;
      }

  pub stops_at_flaw : (flaw : Flaw) (p : ℕ) → IsNoSign w s.at flaw p → Stops ignore_case w flaw p
  stops_at_flaw flaw p g = record {
    before = h.before;
    here = s.at;
    tokens = h.tokens;
    begins = begins h.before (h.inner, h.round) h.run;
    wrong = inl g;
  }

  pub stops_at_token : (sign : Sign) (next : ℕ) (t : Token) (outer : List Level) (flaw : Flaw) → IsSign w s.at sign next → Means ignore_case sign t →
      Follows (step h.inner h.round t) None outer → flaw ≡ (if s.quantified && (peek w s.at == 63) then Unsupported else Syntax) → Stops ignore_case w flaw s.at
  stops_at_token sign next t outer flaw g m f e = record {
    before = h.before;
    here = s.at;
    tokens = h.tokens;
    begins = begins h.before (h.inner, h.round) h.run;
    wrong = inr (inl (
      t,
      next,
      (sign, g, m),
      stuck h.before t (h.inner, h.round) h.run (halted (step h.inner h.round t) outer f),
      e ∙ ap (λ (b : Bool). if b && (peek w s.at == 63) then Unsupported else Syntax) h.quantified,
      refl,
    ));
  }

  stops_round : (k : List Pattern) → h.round ≡ k → s.at ≡ length w → (l : Level) (outer : List Level) → map level_of k ≡ l ∷ outer → Stops ignore_case w Syntax s.at
  stops_round [] r e l outer o = absurd (nil_cons l outer o)
  stops_round (q ∷ k) r e l outer o = record {
    before = h.before;
    here = s.at;
    tokens = h.tokens;
    begins = begins h.before (h.inner, h.round) h.run;
    wrong = inr (inr (
      e,
      unfinished h.before h.inner q k (h.run ∙ ap (λ (x : List Pattern). Some (h.inner, x)) r),
      refl,
      refl,
    ));
  }

  pub stops_at_end : s.at ≡ length w → 0 < length s.outer → Stops ignore_case w Syntax s.at
  stops_at_end e lt = let o = some_cons s.outer lt in stops_round h.round refl e o.0 o.1 (sym h.outer ∙ o.2)

  whole_round : (k : List Pattern) → h.round ≡ k → s.at ≡ length w → map level_of k ≡ [] → IsTree ignore_case w h.inner
  whole_round [] r e o =
      let spelled = finished h.before h.inner (h.run ∙ ap (λ (x : List Pattern). Some (h.inner, x)) r) in
      subst (λ (ts : List Token). Tokens ignore_case w 0 ts (length w)) (sym spelled) (subst (λ (n : ℕ). Tokens ignore_case w 0 h.before n) e h.tokens)
  whole_round (q ∷ k) r e o = absurd (nil_cons (level_of q) (map level_of k) (sym o))

  pub whole : s.at ≡ length w → s.outer ≡ [] → IsTree ignore_case w h.inner
  whole e o = whole_round h.round refl e (sym h.outer ∙ o)

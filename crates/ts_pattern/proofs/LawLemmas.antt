-- A source has one tree, or one fault.
use Rattle.std.proofs.Common.{◌≡◌, ◌≢◌, ℕ, ◌⊎◌, Bool, List, [], ◌∷◌, ◌++◌, length, Some, refl, sym, ap, subst, ◌∙◌, inl, inr, arith, chars, append-nil}
use Rattle.std.proofs.lemmas.List.{append_assoc}
use Rattle.std.proofs.lemmas.Option.{none-some, same_Some}
use Rattle.ts_core.specs.declared.re.Re.{Re}
use Rattle.ts_pattern.specs.declared.fault.PFault.{PFault}
use Rattle.ts_pattern.specs.declared.fault.PFault.TheVariants as fault
use Rattle.ts_pattern.specs.declared.sight.Flaw.{Flaw}
use Rattle.ts_pattern.specs.declared.sight.Flaw.TheVariants.{Syntax, Unsupported, EmptyClass, UnknownProperty}
use Rattle.ts_pattern.specs.Characters.{Text}
use Rattle.ts_pattern.specs.Signs.{IsNoSign}
use Rattle.ts_pattern.specs.Trees.{Token, Pattern, spelling, re_of, passed_limit}
use Rattle.ts_pattern.specs.Reads.{IsTokenAt, Tokens, IsTree, Reads, Begins, GoesWrong, Stops, IsFlawed, IsFault, bytes_before, fault_of}
use Rattle.ts_pattern.proofs.MachineLemmas.{one_spelled}
use Rattle.ts_pattern.proofs.TokenLemmas.{one_token, token_within, no_sign_within, sign_or_flaw, one_flaw}

module _ (ignore_case : Bool) (w : Text) where
  -- after one run of tokens the other goes on
  abbrev pub Longer : List Token → ℕ → List Token → ℕ → Type 0
  Longer ts j us k = (t : Token) × (n : ℕ) × (rest : List Token) × IsTokenAt ignore_case w j t n × Tokens ignore_case w n rest k × (us ≡ ts ++ t ∷ rest)

  abbrev pub Compared : List Token → ℕ → List Token → ℕ → Type 0
  Compared ts j us k = ((ts ≡ us) × (j ≡ k)) ⊎ (Longer ts j us k ⊎ Longer us k ts j)

  pub compared : (ts us : List Token) (i j k : ℕ) → Tokens ignore_case w i ts j → Tokens ignore_case w i us k → Compared ts j us k
  compared [] [] i j k g h = inl (refl, sym g ∙ h)
  compared [] (u ∷ us) i j k g h = inr (inl (subst (λ (n : ℕ). Longer [] n (u ∷ us) k) g (u, h.0, us, h.1, h.2, refl)))
  compared (t ∷ ts) [] i j k g h = inr (inr (subst (λ (n : ℕ). Longer [] n (t ∷ ts) j) h (t, g.0, ts, g.1, g.2, refl)))
  compared (t ∷ ts) (u ∷ us) i j k g h =
      let s = one_token ignore_case w i t u g.0 h.0 g.1 h.1 in
      elim (compared ts us g.0 j k g.2 (subst (λ (n : ℕ). Tokens ignore_case w n us k) (sym s.1) h.2)) [
        | inl e ↦ inl (ap (λ (x : Token). x ∷ ts) s.0 ∙ ap (λ (xs : List Token). u ∷ xs) e.0, e.1)
        | inr (inl l) ↦ inr (inl (l.0, l.1, l.2, l.3, l.4, ap (λ (x : Token). x ∷ us) (sym s.0) ∙ ap (λ (xs : List Token). t ∷ xs) l.5))
        | inr (inr l) ↦ inr (inr (l.0, l.1, l.2, l.3, l.4, ap (λ (x : Token). x ∷ ts) s.0 ∙ ap (λ (xs : List Token). u ∷ xs) l.5))
      ]

  -- no token stands at the end
  past_end : (t : Token) (n : ℕ) → IsTokenAt ignore_case w (length w) t n → ⊥
  past_end t n g = let h = token_within ignore_case w (length w) t n g in omega (arith, h)

  pub one_tree : (p q : Pattern) → IsTree ignore_case w p → IsTree ignore_case w q → p ≡ q
  one_tree p q g h = elim (compared (spelling p) (spelling q) 0 (length w) (length w) g h) [
    | inl e ↦ one_spelled p q e.0
    | inr (inl l) ↦ absurd (past_end l.0 l.1 l.3)
    | inr (inr l) ↦ absurd (past_end l.0 l.1 l.3)
  ]

  -- where the text goes wrong, no token goes on with a pattern
  goes_on : (ts : List Token) (i : ℕ) (f : Flaw) (p : ℕ) (t : Token) (n : ℕ) → GoesWrong ignore_case w ts i f p → IsTokenAt ignore_case w i t n → Begins (ts ++ t ∷ []) → ⊥
  goes_on ts i f p t n (inl absent) g b = sign_or_flaw w i g.0 n f p g.1 absent
  goes_on ts i f p t n (inr (inl x)) g b = x.3 (subst (λ (u : Token). Begins (ts ++ u ∷ [])) (one_token ignore_case w i t x.0 n x.1 g x.2).0 b)
  goes_on ts i f p t n (inr (inr x)) g b = let h = token_within ignore_case w i t n g in omega (arith, h, x.0)

  begins_longer : (ts us : List Token) (t : Token) (rest : List Token) → us ≡ ts ++ t ∷ rest → Begins us → Begins (ts ++ t ∷ [])
  begins_longer ts us t rest e b = (rest ++ b.0, b.1, b.2 ∙ ap (λ (xs : List Token). xs ++ b.0) e ∙ append_assoc ts (t ∷ rest) b.0 ∙ sym (append_assoc ts (t ∷ []) (rest ++ b.0)))

  whole_begins : (p : Pattern) → Begins (spelling p)
  whole_begins p = ([], p, sym (append-nil (spelling p)))

  no_sign_ends : (i : ℕ) (f : Flaw) (p : ℕ) → IsNoSign w i f p → i ≡ length w → ⊥
  no_sign_ends i f p absent h = let lt = no_sign_within w i f p absent in omega (arith, lt, h)

  -- nothing but the end is wrong where the text ends, and there the tokens are no pattern
  ends : (p : Pattern) (ts : List Token) (i : ℕ) (f : Flaw) (at : ℕ) → GoesWrong ignore_case w ts i f at → ts ≡ spelling p → i ≡ length w → ⊥
  ends p ts i f at (inl absent) e h = no_sign_ends i f at absent h
  ends p ts i f at (inr (inl x)) e h = let lt = token_within ignore_case w i x.0 x.1 x.2 in omega (arith, lt, h)
  ends p ts i f at (inr (inr x)) e h = x.1 p (sym e)

  one_wrong : (ts : List Token) (i : ℕ) (f g : Flaw) (p q : ℕ) → GoesWrong ignore_case w ts i f p → GoesWrong ignore_case w ts i g q → (f ≡ g) × (p ≡ q)
  one_wrong ts i f g p q (inl a) (inl b) = one_flaw w i f g p q a b
  one_wrong ts i f g p q (inl a) (inr (inl y)) = absurd (sign_or_flaw w i y.2.0 y.1 f p y.2.1 a)
  one_wrong ts i f g p q (inl a) (inr (inr y)) = absurd (no_sign_ends i f p a y.0)
  one_wrong ts i f g p q (inr (inl x)) (inl b) = absurd (sign_or_flaw w i x.2.0 x.1 g q x.2.1 b)
  one_wrong ts i f g p q (inr (inl x)) (inr (inl y)) = (x.4 ∙ sym y.4, x.5 ∙ sym y.5)
  one_wrong ts i f g p q (inr (inl x)) (inr (inr y)) = let lt = token_within ignore_case w i x.0 x.1 x.2 in absurd (omega (arith, lt, y.0))
  one_wrong ts i f g p q (inr (inr x)) (inl b) = absurd (no_sign_ends i g q b x.0)
  one_wrong ts i f g p q (inr (inr x)) (inr (inl y)) = let lt = token_within ignore_case w i y.0 y.1 y.2 in absurd (omega (arith, lt, x.0))
  one_wrong ts i f g p q (inr (inr x)) (inr (inr y)) = (x.2 ∙ sym y.2, x.3 ∙ sym y.3)

  pub tree_or_flaw : (p : Pattern) (f : Flaw) (at : ℕ) → IsTree ignore_case w p → Stops ignore_case w f at → ⊥
  tree_or_flaw p f at g s = elim (compared s.before (spelling p) 0 s.here (length w) s.tokens g) [
    | inl e ↦ ends p s.before s.here f at s.wrong e.0 e.1
    | inr (inl l) ↦ goes_on s.before s.here f at l.0 l.1 s.wrong l.3 (begins_longer s.before (spelling p) l.0 l.2 l.5 (whole_begins p))
    | inr (inr l) ↦ past_end l.0 l.1 l.3
  ]

  pub one_stop : (f g : Flaw) (p q : ℕ) → Stops ignore_case w f p → Stops ignore_case w g q → (f ≡ g) × (p ≡ q)
  one_stop f g p q a b = elim (compared a.before b.before 0 a.here b.here a.tokens b.tokens) [
    | inl e ↦ one_wrong a.before a.here f g p q a.wrong (subst (λ (ts : List Token). GoesWrong ignore_case w ts a.here g q) (sym e.0) (subst (λ (n : ℕ). GoesWrong ignore_case w b.before n g q) (sym e.1) b.wrong))
    | inr (inl l) ↦ absurd (goes_on a.before a.here f p l.0 l.1 a.wrong l.3 (begins_longer a.before b.before l.0 l.2 l.5 b.begins))
    | inr (inr l) ↦ absurd (goes_on b.before b.here g q l.0 l.1 b.wrong l.3 (begins_longer b.before a.before l.0 l.2 l.5 a.begins))
  ]

-- ---- sources

pub one_read : (r q : Re) (s : List ℕ) (ignore_case : Bool) → Reads s ignore_case r → Reads s ignore_case q → r ≡ q
one_read r q s ignore_case g h = g.3 ∙ ap re_of (one_tree ignore_case (chars s) g.0 h.0 g.1 h.1) ∙ sym h.3

-- a fault by its flaw, or by the limit
abbrev pub IsFlaw : List ℕ → Bool → PFault → Type 0
IsFlaw s ignore_case e = (flaw : Flaw) × (p : ℕ) × (e ≡ fault_of flaw p) × IsFlawed s ignore_case flaw p

abbrev pub IsLimit : List ℕ → Bool → PFault → Type 0
IsLimit s ignore_case e = (n : ℕ) × (p : Pattern) × (e ≡ fault.Limit n) × IsTree ignore_case (chars s) p × (passed_limit p ≡ Some n)

sorted : (e : PFault) (s : List ℕ) (ignore_case : Bool) → e ≢ fault.Memory → IsFault s ignore_case e → IsFlaw s ignore_case e ⊎ IsLimit s ignore_case e
sorted (fault.Syntax p) s ignore_case m g = inl (Syntax, p, refl, g)
sorted (fault.Unsupported p) s ignore_case m g = inl (Unsupported, p, refl, g)
sorted (fault.EmptyClass p) s ignore_case m g = inl (EmptyClass, p, refl, g)
sorted (fault.UnknownProperty p) s ignore_case m g = inl (UnknownProperty, p, refl, g)
sorted (fault.Limit n) s ignore_case m g = inr (n, g.0, refl, g.1, g.2)
sorted fault.Memory s ignore_case m g = absurd (m refl)

pub fault_or_read : (e : PFault) (r : Re) (s : List ℕ) (ignore_case : Bool) → e ≢ fault.Memory → IsFault s ignore_case e → Reads s ignore_case r → ⊥
fault_or_read e r s ignore_case m g h = elim (sorted e s ignore_case m g) [
  | inl x ↦ tree_or_flaw ignore_case (chars s) h.0 x.0 x.3.0 h.1 x.3.1
  | inr x ↦ none-some x.0 (sym h.2 ∙ ap passed_limit (one_tree ignore_case (chars s) h.0 x.1 h.1 x.3) ∙ x.4)
]

one_flawed : (e f : PFault) (s : List ℕ) (ignore_case : Bool) → IsFlaw s ignore_case e → IsFlaw s ignore_case f → e ≡ f
one_flawed e f s ignore_case x y =
    let both = one_stop ignore_case (chars s) x.0 y.0 x.3.0 y.3.0 x.3.1 y.3.1 in
    x.2 ∙ ap (λ (g : Flaw). fault_of g x.1) both.0
    ∙ ap (fault_of y.0) (x.3.2 ∙ ap (bytes_before (chars s)) both.1 ∙ sym y.3.2) ∙ sym y.2

pub one_fault : (e f : PFault) (s : List ℕ) (ignore_case : Bool) → e ≢ fault.Memory → f ≢ fault.Memory → IsFault s ignore_case e → IsFault s ignore_case f → e ≡ f
one_fault e f s ignore_case m n g h = elim (sorted e s ignore_case m g) [
  | inl x ↦ elim (sorted f s ignore_case n h) [
    | inl y ↦ one_flawed e f s ignore_case x y
    | inr y ↦ absurd (tree_or_flaw ignore_case (chars s) y.1 x.0 x.3.0 y.3 x.3.1)
  ]
  | inr x ↦ elim (sorted f s ignore_case n h) [
    | inl y ↦ absurd (tree_or_flaw ignore_case (chars s) x.1 y.0 y.3.0 x.3 y.3.1)
    | inr y ↦ x.2 ∙ ap fault.Limit (same_Some _ _ (sym x.4 ∙ ap passed_limit (one_tree ignore_case (chars s) x.1 y.1 x.3 y.3) ∙ y.4)) ∙ sym y.2
  ]
]

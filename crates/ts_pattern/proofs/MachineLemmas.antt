-- The reader's steps and the tokens that spell trees: what is open after some tokens is spelled by
-- them, and a tree's tokens open the tree.
use Rattle.std.proofs.Common.{◌≡◌, ℕ, Bool, true, false, List, [], ◌∷◌, ◌++◌, Option, Some, None, option_map, refl, sym, ap, subst, ◌∙◌, append-nil, true≢false}
use Rattle.std.proofs.lemmas.List.{append_assoc}
use Rattle.std.proofs.lemmas.Option.{none-some, same_Some}
use Rattle.ts_pattern.specs.Trees.{Token, one_of, opening, closing, bar, quantifier, Pattern, only, or, Branch, empty, more, Piece, once, times, Atom, set, group, spelling, branch_spelling, piece_spelling, atom_spelling}
use Rattle.ts_pattern.specs.Reads.{Begins}
use Rattle.ts_pattern.specs.Machine.{Open, plus, repeated, times_last, closed, with_rest, step, run_from, start}

-- the tokens of all that is open
abbrev pub spelled : Pattern → List Pattern → List Token
spelled p [] = spelling p
spelled p (q ∷ k) = spelled q k ++ opening ∷ spelling p

spelled_more : (p q : Pattern) (k : List Pattern) (ts : List Token) → spelling q ≡ spelling p ++ ts → spelled q k ≡ spelled p k ++ ts
spelled_more p q [] ts e = e
spelled_more p q (r ∷ k) ts e = ap (λ (t : List Token). spelled r k ++ opening ∷ t) e ∙ sym (append_assoc (spelled r k) (opening ∷ spelling p) ts)

plus_spelling : (p : Pattern) (x : Piece) → spelling (plus p x) ≡ spelling p ++ piece_spelling x
plus_spelling (only b) x = refl
plus_spelling (or p b) x = sym (append_assoc (spelling p) (bar ∷ branch_spelling b) (piece_spelling x))

repeated_spelling : (b c : Branch) (n : ℕ) (m : Option ℕ) → repeated b n m ≡ Some c → branch_spelling c ≡ branch_spelling b ++ quantifier n m ∷ []
repeated_spelling empty c n m e = absurd (none-some c e)
repeated_spelling (more b (once a)) c n m e =
    subst (λ (d : Branch). branch_spelling d ≡ branch_spelling (more b (once a)) ++ quantifier n m ∷ []) (same_Some _ _ e)
    (sym (append_assoc (branch_spelling b) (atom_spelling a) (quantifier n m ∷ [])))
repeated_spelling (more b (times a k l)) c n m e = absurd (none-some c e)

-- what a map made of an option's value
mapped : {A B : Type 0} (f : A → B) (o : Option A) (y : B) → option_map f o ≡ Some y → (x : A) × (o ≡ Some x) × (f x ≡ y)
mapped f None y e = absurd (none-some y e)
mapped f (Some x) y e = (x, refl, same_Some _ _ e)

times_spelling : (p q : Pattern) (n : ℕ) (m : Option ℕ) → times_last p n m ≡ Some q → spelling q ≡ spelling p ++ quantifier n m ∷ []
times_spelling (only b) q n m e =
    let d = mapped only (repeated b n m) q e in
    subst (λ (r : Pattern). spelling r ≡ spelling (only b) ++ quantifier n m ∷ []) d.2 (repeated_spelling b d.0 n m d.1)
times_spelling (or p b) q n m e =
    let d = mapped (or p) (repeated b n m) q e in
    subst (λ (r : Pattern). spelling r ≡ spelling (or p b) ++ quantifier n m ∷ []) d.2
    (ap (λ (t : List Token). spelling p ++ bar ∷ t) (repeated_spelling b d.0 n m d.1)
    ∙ sym (append_assoc (spelling p) (bar ∷ branch_spelling b) (quantifier n m ∷ [])))

closed_spelling : (p : Pattern) (k : List Pattern) (z : Open) → closed p k ≡ Some z → spelled z.0 z.1 ≡ spelled p k ++ closing ∷ []
closed_spelling p [] z e = absurd (none-some z e)
closed_spelling p (q ∷ k) z e =
    subst (λ (y : Open). spelled y.0 y.1 ≡ spelled p (q ∷ k) ++ closing ∷ []) (same_Some _ _ e)
    (spelled_more q (plus q (once (group p))) k (opening ∷ (spelling p ++ closing ∷ [])) (plus_spelling q (once (group p)))
    ∙ sym (append_assoc (spelled q k) (opening ∷ spelling p) (closing ∷ [])))

step_spelling : (p : Pattern) (k : List Pattern) (t : Token) (z : Open) → step p k t ≡ Some z → spelled z.0 z.1 ≡ spelled p k ++ t ∷ []
step_spelling p k (one_of ranges) z e =
    subst (λ (y : Open). spelled y.0 y.1 ≡ spelled p k ++ one_of ranges ∷ []) (same_Some _ _ e)
    (spelled_more p (plus p (once (set ranges))) k (one_of ranges ∷ []) (plus_spelling p (once (set ranges))))
step_spelling p k opening z e = subst (λ (y : Open). spelled y.0 y.1 ≡ spelled p k ++ opening ∷ []) (same_Some _ _ e) refl
step_spelling p k closing z e = closed_spelling p k z e
step_spelling p k bar z e =
    subst (λ (y : Open). spelled y.0 y.1 ≡ spelled p k ++ bar ∷ []) (same_Some _ _ e) (spelled_more p (or p empty) k (bar ∷ []) refl)
step_spelling p k (quantifier n m) z e =
    let d = mapped (with_rest k) (times_last p n m) z e in
    subst (λ (y : Open). spelled y.0 y.1 ≡ spelled p k ++ quantifier n m ∷ []) d.2
    (spelled_more p d.0 k (quantifier n m ∷ []) (times_spelling p d.0 n m d.1))

pub run_append : (o : Option Open) (ts us : List Token) → run_from o (ts ++ us) ≡ run_from (run_from o ts) us
run_append None ts us = refl
run_append (Some z) [] us = refl
run_append (Some z) (t ∷ ts) us = run_append (step z.0 z.1 t) ts us

-- ---- a tree's tokens open the tree

pub data Place : Type 0 where
  alone : Place
  after : Pattern → Place

abbrev pub put : Place → Branch → Pattern
put alone b = only b
put (after p) b = or p b

plus_put : (at : Place) (b : Branch) (x : Piece) → plus (put at b) x ≡ put at (more b x)
plus_put alone b x = refl
plus_put (after p) b x = refl

times_plus : (p : Pattern) (a : Atom) (n : ℕ) (m : Option ℕ) → times_last (plus p (once a)) n m ≡ Some (plus p (times a n m))
times_plus (only b) a n m = refl
times_plus (or p b) a n m = refl

abbrev opened : Pattern → List Pattern → Option Open
opened p k = Some (p, k)

mutual
  run_pattern : (t : Pattern) (k : List Pattern) (rest : List Token) → run_from (opened (only empty) k) (spelling t ++ rest) ≡ run_from (opened t k) rest
  run_pattern (only b) k rest = run_branch b alone k rest
  run_pattern (or p b) k rest =
      ap (run_from (opened (only empty) k)) (append_assoc (spelling p) (bar ∷ branch_spelling b) rest)
      ∙ run_pattern p k (bar ∷ (branch_spelling b ++ rest)) ∙ run_branch b (after p) k rest

  run_branch : (b : Branch) (at : Place) (k : List Pattern) (rest : List Token) → run_from (opened (put at empty) k) (branch_spelling b ++ rest) ≡ run_from (opened (put at b) k) rest
  run_branch empty at k rest = refl
  run_branch (more b x) at k rest =
      ap (run_from (opened (put at empty) k)) (append_assoc (branch_spelling b) (piece_spelling x) rest)
      ∙ run_branch b at k (piece_spelling x ++ rest) ∙ run_piece x (put at b) k rest
      ∙ ap (λ (p : Pattern). run_from (opened p k) rest) (plus_put at b x)

  run_piece : (x : Piece) (p : Pattern) (k : List Pattern) (rest : List Token) → run_from (opened p k) (piece_spelling x ++ rest) ≡ run_from (opened (plus p x) k) rest
  run_piece (once a) p k rest = run_atom a p k rest
  run_piece (times a n m) p k rest =
      ap (run_from (opened p k)) (append_assoc (atom_spelling a) (quantifier n m ∷ []) rest)
      ∙ run_atom a p k (quantifier n m ∷ rest)
      ∙ ap (λ (o : Option Pattern). run_from (option_map (with_rest k) o) rest) (times_plus p a n m)

  run_atom : (a : Atom) (p : Pattern) (k : List Pattern) (rest : List Token) → run_from (opened p k) (atom_spelling a ++ rest) ≡ run_from (opened (plus p (once a)) k) rest
  run_atom (set ranges) p k rest = refl
  run_atom (group q) p k rest =
      ap (run_from (opened (only empty) (p ∷ k))) (append_assoc (spelling q) (closing ∷ []) rest)
      ∙ run_pattern q (p ∷ k) (closing ∷ rest)

pub run_tree : (p : Pattern) → run_from start (spelling p) ≡ Some (p, [])
run_tree p = ap (run_from start) (sym (append-nil (spelling p))) ∙ run_pattern p [] []

pub one_spelled : (p q : Pattern) → spelling p ≡ spelling q → p ≡ q
one_spelled p q e = ap (λ (z : Open). z.0) (same_Some _ _ (sym (run_tree p) ∙ ap (run_from start) e ∙ run_tree q))

-- ---- what some pattern begins with

-- a pattern that is open can be closed
close_all : (p : Pattern) (k : List Pattern) → Begins (spelled p k)
close_all p [] = ([], p, sym (append-nil (spelling p)))
close_all p (q ∷ k) =
    let h = close_all (plus q (once (group p))) k in
    let e = closed_spelling p (q ∷ k) (plus q (once (group p)), k) refl in (
      closing ∷ h.0,
      h.1,
      h.2 ∙ ap (λ (t : List Token). t ++ h.0) e ∙ append_assoc (spelled p (q ∷ k)) (closing ∷ []) h.0,
    )

run_spelled_from : (o : Option Open) (us ts : List Token) (z : Open) → ((y : Open) → o ≡ Some y → spelled y.0 y.1 ≡ us) → run_from o ts ≡ Some z → spelled z.0 z.1 ≡ us ++ ts
run_spelled_from None us ts z h e = absurd (none-some z e)
run_spelled_from (Some y) us [] z h e = subst (λ (x : Open). spelled x.0 x.1 ≡ us ++ []) (same_Some _ _ e) (h y refl ∙ sym (append-nil us))
run_spelled_from (Some y) us (t ∷ ts) z h e =
    run_spelled_from (step y.0 y.1 t) (us ++ t ∷ []) ts z
    (λ x g. step_spelling y.0 y.1 t x g ∙ ap (λ (v : List Token). v ++ t ∷ []) (h y refl)) e
    ∙ append_assoc us (t ∷ []) ts

pub run_spelled : (ts : List Token) (z : Open) → run_from start ts ≡ Some z → spelled z.0 z.1 ≡ ts
run_spelled ts z e = run_spelled_from start [] ts z (λ y g. ap (λ (x : Open). spelled x.0 x.1) (sym (same_Some _ _ g))) e

pub begins : (ts : List Token) (z : Open) → run_from start ts ≡ Some z → Begins ts
begins ts z e = subst Begins (run_spelled ts z e) (close_all z.0 z.1)

-- after what cannot be, nothing can be
pub stuck : (ts : List Token) (t : Token) (z : Open) → run_from start ts ≡ Some z → step z.0 z.1 t ≡ None → Begins (ts ++ t ∷ []) → ⊥
stuck ts t z e s b =
    let whole : run_from start ((ts ++ t ∷ []) ++ b.0) ≡ Some (b.1, []) = ap (run_from start) (sym b.2) ∙ run_tree b.1 in
    let last : run_from start (ts ++ t ∷ []) ≡ None = run_append start ts (t ∷ []) ∙ ap (λ (o : Option Open). run_from o (t ∷ [])) e ∙ ap (λ (o : Option Open). run_from o []) s in
    none-some _ (sym (run_append start (ts ++ t ∷ []) b.0 ∙ ap (λ (o : Option Open). run_from o b.0) last) ∙ whole)

abbrev is_nil : List Pattern → Bool
is_nil [] = true
is_nil (p ∷ k) = false

-- what is open within another pattern is no whole pattern
pub unfinished : (ts : List Token) (p q : Pattern) (k : List Pattern) → run_from start ts ≡ Some (p, q ∷ k) → (t : Pattern) → spelling t ≡ ts → ⊥
unfinished ts p q k e t s = true≢false (sym (ap (λ (z : Open). is_nil z.1) (same_Some _ _ (sym e ∙ ap (run_from start) (sym s) ∙ run_tree t))))

pub finished : (ts : List Token) (p : Pattern) → run_from start ts ≡ Some (p, []) → spelling p ≡ ts
finished ts p e = run_spelled ts (p, []) e

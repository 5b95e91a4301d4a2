-- What is kept of an open pattern, after a piece, a bar, a quantifier and at its end.
use Rattle.std.proofs.Common.{◌≡◌, ℕ, ◌+◌, ◌≤◌, min, max, Bool, true, false, nat_lt, List, [], ◌∷◌, ◌++◌, Some, None, refl, sym, ap, ap₂, ◌∙◌, arith, inl, inr, if◌then◌else◌}
use Rattle.std.proofs.lemmas.Bool.{cases_lt, cond-true, cond-false, lt-ltb, le-ltb}
use Rattle.std.proofs.lemmas.Option.{none-some}
use Rattle.ts_pattern.specs.declared.level.Level.{Level}
use Rattle.ts_pattern.specs.declared.level.Part.{Part}
use Rattle.ts_core.specs.declared.re.Re.{Re}
use Rattle.ts_core.specs.declared.re.Re.TheVariants as re
use Rattle.ts_pattern.specs.Trees.{Pattern, only, or, Branch, empty, more, Piece, once, times, Atom, set, group, joined_parts, chosen, branches_of, pieces_of, piece_re, atom_re, re_of, nesting, branch_nesting, piece_nesting, atom_nesting, greatest, piece_greatest, positions, piece_positions, limit_passed, passed_limit}
use Rattle.ts_pattern.specs.Machine.{plus, last_branch, built_branches, built_pieces, built_piece, built_atom, built_before, earlier, branch_latest, is_repeatable, level_of, part_of}

-- ---- numbers that stop

pub min_max : (c a b : ℕ) → max (min c a) (min c b) ≡ min c (max a b)
min_max c a b = omega arith

-- ---- a pattern with one more piece

pub before_plus : (p : Pattern) (x : Piece) → built_before (plus p x) ≡ built_before p
before_plus (only b) x = refl
before_plus (or p b) x = refl

pub pieces_plus : (p : Pattern) (x : Piece) → built_pieces (last_branch (plus p x)) ≡ built_pieces (last_branch p) ++ built_piece x ∷ []
pieces_plus (only b) x = refl
pieces_plus (or p b) x = refl

pub nesting_plus : (p : Pattern) (x : Piece) → nesting (plus p x) ≡ max (nesting p) (piece_nesting x)
nesting_plus (only b) x = refl
nesting_plus (or p b) x = omega arith

pub greatest_plus : (p : Pattern) (x : Piece) → greatest (plus p x) ≡ max (greatest p) (piece_greatest x)
greatest_plus (only b) x = refl
greatest_plus (or p b) x = omega arith

pub positions_split : (p : Pattern) → positions p ≡ earlier p + branch_latest (last_branch p)
positions_split (only empty) = refl
positions_split (only (more b x)) = refl
positions_split (or p empty) = omega arith
positions_split (or p (more b x)) = omega arith

pub earlier_plus : (p : Pattern) (x : Piece) → earlier (plus p x) ≡ positions p
earlier_plus (only b) x = refl
earlier_plus (or p b) x = refl

pub latest_plus : (p : Pattern) (x : Piece) → branch_latest (last_branch (plus p x)) ≡ piece_positions x
latest_plus (only b) x = refl
latest_plus (or p b) x = refl

pub repeatable_plus : (p : Pattern) (a : Atom) → is_repeatable (last_branch (plus p (once a))) ≡ true
repeatable_plus (only b) a = refl
repeatable_plus (or p b) a = refl

pub branches_split : (p : Pattern) → built_branches p ≡ built_before p ++ joined_parts (built_pieces (last_branch p)) ∷ []
branches_split (only b) = refl
branches_split (or p b) = refl

-- ---- within the limit all is kept

mutual
  branches_is : (p : Pattern) → nesting p ≤ 200 → built_branches p ≡ branches_of p
  branches_is (only b) h = ap (λ (rs : List Re). joined_parts rs ∷ []) (pieces_is b h)
  branches_is (or p b) h = ap₂ (λ (rs ss : List Re). rs ++ joined_parts ss ∷ []) (branches_is p (omega (arith, h))) (pieces_is b (omega (arith, h)))

  pieces_is : (b : Branch) → branch_nesting b ≤ 200 → built_pieces b ≡ pieces_of b
  pieces_is empty h = refl
  pieces_is (more b x) h = ap₂ (λ (rs : List Re) (r : Re). rs ++ r ∷ []) (pieces_is b (omega (arith, h))) (piece_is x (omega (arith, h)))

  piece_is : (x : Piece) → piece_nesting x ≤ 200 → built_piece x ≡ piece_re x
  piece_is (once a) h = atom_is a h
  piece_is (times a n m) h = ap (λ (r : Re). re.Repeat r n m) (atom_is a h)

  atom_is : (a : Atom) → atom_nesting a ≤ 200 → built_atom a ≡ atom_re a
  atom_is (set ranges) h = refl
  atom_is (group p) h =
      let shallow : nat_lt 200 (nesting p + 1) ≡ false = le-ltb _ _ (omega (arith, h)) in
      cond-false _ _ _ shallow ∙ ap chosen (branches_is p (omega (arith, h)))

pub whole_is : (p : Pattern) → nesting p ≤ 200 → chosen (built_branches p) ≡ re_of p
whole_is p h = ap chosen (branches_is p h)

-- ---- what is kept, as a whole

abbrev made : List Re → List Re → ℕ → ℕ → ℕ → ℕ → Bool → Level
made b p n g e l r = record { branches = b; pieces = p; nesting = n; greatest = g; earlier = e; latest = l; repeatable = r }

same_level : {b c p q : List Re} {n m g h e f l k : ℕ} {r s : Bool} → b ≡ c → p ≡ q → n ≡ m → g ≡ h → e ≡ f → l ≡ k → r ≡ s → made b p n g e l r ≡ made c q m h f k s
same_level {b} {c} {p} {q} {n} {m} {g} {h} {e} {f} {l} {k} {r} {s} eb ep en eg ee el er =
    ap (λ (x : List Re). made x p n g e l r) eb ∙ ap (λ (x : List Re). made c x n g e l r) ep
    ∙ ap (λ (x : ℕ). made c q x g e l r) en ∙ ap (λ (x : ℕ). made c q m x e l r) eg
    ∙ ap (λ (x : ℕ). made c q m h x l r) ee ∙ ap (λ (x : ℕ). made c q m h f x r) el
    ∙ ap (λ (x : Bool). made c q m h f k x) er

pub with_is : (p : Pattern) (a : Atom) (s : Level) (x : Part) (ps : List Re) (n g e : ℕ) → s ≡ level_of p → x ≡ part_of a →
    ps ≡ s.pieces ++ x.re ∷ [] → n ≡ max s.nesting x.nesting → g ≡ max s.greatest x.greatest → e ≡ min 8193 (earlier p + branch_latest (last_branch p)) →
    made s.branches ps n g e x.positions true ≡ level_of (plus p (once a))
with_is p a s x ps n g e hs hx hp hn hg he =
    same_level
    (ap (λ (t : Level). t.branches) hs ∙ sym (before_plus p (once a)))
    (hp ∙ ap₂ (λ (t : Level) (y : Part). t.pieces ++ y.re ∷ []) hs hx ∙ sym (pieces_plus p (once a)))
    (hn ∙ ap₂ (λ (t : Level) (y : Part). max t.nesting y.nesting) hs hx ∙ min_max 201 (nesting p) (atom_nesting a) ∙ ap (min 201) (sym (nesting_plus p (once a))))
    (hg ∙ ap₂ (λ (t : Level) (y : Part). max t.greatest y.greatest) hs hx ∙ sym (greatest_plus p (once a)))
    (he ∙ ap (min 8193) (sym (positions_split p) ∙ sym (earlier_plus p (once a))))
    (ap (λ (y : Part). y.positions) hx ∙ ap (min 8193) (sym (latest_plus p (once a))))
    (sym (repeatable_plus p a))

pub bar_is : (p : Pattern) (s : Level) (bs : List Re) (r : Re) (e : ℕ) → s ≡ level_of p → r ≡ joined_parts s.pieces → bs ≡ s.branches ++ r ∷ [] →
    e ≡ min 8193 (earlier p + branch_latest (last_branch p)) → made bs [] s.nesting s.greatest e 0 false ≡ level_of (or p empty)
bar_is p s bs r e hs hr hb he =
    same_level
    (hb ∙ ap (λ (x : Re). s.branches ++ x ∷ []) hr ∙ ap (λ (t : Level). t.branches ++ joined_parts t.pieces ∷ []) hs ∙ sym (branches_split p))
    refl
    (ap (λ (t : Level). t.nesting) hs ∙ omega arith)
    (ap (λ (t : Level). t.greatest) hs ∙ omega arith)
    (he ∙ ap (min 8193) (sym (positions_split p) ∙ omega arith))
    (omega arith)
    refl

abbrev make : Re → ℕ → ℕ → ℕ → Part
make r n g k = record { re = r; nesting = n; greatest = g; positions = k }

pub close_is : (p : Pattern) (s : Level) (r : Re) (n k : ℕ) → s ≡ level_of p → r ≡ built_atom (group p) → n ≡ min s.nesting 200 + 1 →
    k ≡ min 8193 (earlier p + branch_latest (last_branch p)) →
    ◌≡◌ {A = Part} (record { re = r; nesting = n; greatest = s.greatest; positions = k }) (part_of (group p))
close_is p s r n k hs hr hn hk =
    let nests : n ≡ min 201 (nesting p + 1) = hn ∙ ap (λ (t : Level). min t.nesting 200 + 1) hs ∙ omega arith in
    ap (λ (x : Re). make x n s.greatest k) hr ∙ ap (λ (x : ℕ). make (built_atom (group p)) x s.greatest k) nests
    ∙ ap (λ (t : Level). make (built_atom (group p)) (min 201 (nesting p + 1)) t.greatest k) hs
    ∙ ap (λ (x : ℕ). make (built_atom (group p)) (min 201 (nesting p + 1)) (greatest p) x) (hk ∙ ap (min 8193) (sym (positions_split p)))

-- the limits are seen in what is kept
capped_test : (c n : ℕ) → nat_lt c (min (c + 1) n) ≡ nat_lt c n
capped_test c n = elim (cases_lt c n) [
  | inl lt ↦ lt-ltb _ _ (omega (arith, lt)) ∙ sym (lt-ltb _ _ lt)
  | inr le ↦ le-ltb _ _ (omega (arith, le)) ∙ sym (le-ltb _ _ le)
]

not_deep : (p : Pattern) → passed_limit p ≡ None → nesting p ≤ 200
not_deep p e = elim (cases_lt 200 (nesting p)) [
  | inl deep ↦ absurd (none-some 200 (sym e ∙ cond-true _ _ _ (lt-ltb _ _ deep)))
  | inr le ↦ le
]

pub limit_is : (p : Pattern) (s : Level) (k : ℕ) → s ≡ level_of p → k ≡ min 8193 (earlier p + branch_latest (last_branch p)) → limit_passed s.nesting s.greatest k ≡ passed_limit p
limit_is p s k hs hk =
    let a : nat_lt 200 (min 201 (nesting p)) ≡ nat_lt 200 (nesting p) = capped_test 200 (nesting p) in
    let b : nat_lt 8192 (min 8193 (positions p)) ≡ nat_lt 8192 (positions p) = capped_test 8192 (positions p) in
    ap₂ (λ (t : Level) (n : ℕ). limit_passed t.nesting t.greatest n) hs (hk ∙ ap (min 8193) (sym (positions_split p)))
    ∙ ap₂ (λ (x y : Bool). if x then Some 200 else if nat_lt 65535 (greatest p) then Some 65535 else if y then Some 8192 else None) a b

pub whole_level : (p : Pattern) (s : Level) → s ≡ level_of p → passed_limit p ≡ None → chosen (s.branches ++ joined_parts s.pieces ∷ []) ≡ re_of p
whole_level p s hs e =
    ap (λ (t : Level). chosen (t.branches ++ joined_parts t.pieces ∷ [])) hs ∙ ap chosen (sym (branches_split p)) ∙ whole_is p (not_deep p e)

pub depth_is : (p : Pattern) (s : Level) → s ≡ level_of p → min s.nesting 200 + 1 ≡ min 201 (nesting p + 1)
depth_is p s hs = ap (λ (t : Level). min t.nesting 200 + 1) hs ∙ omega arith

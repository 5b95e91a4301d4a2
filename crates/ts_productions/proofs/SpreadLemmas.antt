-- How expansions are put together.
use Rattle.std.proofs.Common.{◌≡◌, ◌∙◌, ap, refl, sym, if◌then◌else◌, Bool, ◌<◌, ◌≤◌, ◌⊎◌, inl, inr, arith, List, [], ◌∷◌, ◌++◌, map, Option, Some, None, option_map, append_assoc, append-nil, All}
use Rattle.std.specs.List.{flat_map}
use Rattle.std.specs.Int.RustNames.{unsigned_abs}
use Rattle.std.proofs.lemmas.Bool.{cases_lt, lt-ltb, le-ltb}
use Rattle.std.proofs.lemmas.List.{map-append}
use Rattle.std.proofs.lemmas.List.Elements.{All-head, All-tail}
use lib.IntN.{ℤ}
use Rattle.ts_rules.specs.declared.tree.Alternative.{Alternative}
use Rattle.ts_rules.specs.declared.tree.NumberedStep.{NumberedStep}
use Rattle.ts_rules.specs.Alternatives.{Alternatives, alternative, stronger}
use Rattle.ts_rules.specs.Productions.{marked_by, inserted}
use Rattle.ts_productions.specs.declared.expansion.Expansion.{Expansion}
use Rattle.ts_productions.specs.Expansions.{Expansions, expansion, close, plain, last_by, Table, by_option, spread, spread_of, spread_all, onward}
use Rattle.ts_productions.proofs.StepLemmas.{marked_twice, marked_last, last_marked, last_twice}

-- ---- lists

pub flat_append : {X Y : Type 0} (f : X → List Y) (xs ys : List X) → flat_map f (xs ++ ys) ≡ flat_map f xs ++ flat_map f ys
flat_append f [] ys = refl
flat_append f (x ∷ xs) ys = ap (λ zs. f x ++ zs) (flat_append f xs ys) ∙ sym (append_assoc (f x) (flat_map f xs) (flat_map f ys))

pub flat_flat : {X Y Z : Type 0} (f : X → List Y) (g : Y → List Z) (xs : List X) → flat_map (λ (x : X). flat_map g (f x)) xs ≡ flat_map g (flat_map f xs)
flat_flat f g [] = refl
flat_flat f g (x ∷ xs) = ap (λ zs. flat_map g (f x) ++ zs) (flat_flat f g xs) ∙ sym (flat_append g (f x) (flat_map f xs))

pub flat_same : {X Y : Type 0} (f g : X → List Y) → ((x : X) → f x ≡ g x) → (xs : List X) → flat_map f xs ≡ flat_map g xs
flat_same f g same [] = refl
flat_same f g same (x ∷ xs) = ap (λ zs. zs ++ flat_map f xs) (same x) ∙ ap (λ zs. g x ++ zs) (flat_same f g same xs)

pub map_flat : {X Y Z : Type 0} (h : Y → Z) (f : X → List Y) (xs : List X) → map h (flat_map f xs) ≡ flat_map (λ (x : X). map h (f x)) xs
map_flat h f [] = refl
map_flat h f (x ∷ xs) = map-append h (f x) (flat_map f xs) ∙ ap (λ zs. map h (f x) ++ zs) (map_flat h f xs)

pub flat_mapped : {X Y Z : Type 0} (f : Y → List Z) (g : X → Y) (xs : List X) → flat_map f (map g xs) ≡ flat_map (λ (x : X). f (g x)) xs
flat_mapped f g [] = refl
flat_mapped f g (x ∷ xs) = ap (λ zs. f (g x) ++ zs) (flat_mapped f g xs)

-- ---- dynamic values

second : (x y : ℤ) → unsigned_abs x < unsigned_abs y → stronger x y ≡ y
second x y h = ap (λ (b : Bool). if b then y else x) (lt-ltb (unsigned_abs x) (unsigned_abs y) h)

first : (x y : ℤ) → unsigned_abs y ≤ unsigned_abs x → stronger x y ≡ x
first x y h = ap (λ (b : Bool). if b then y else x) (le-ltb (unsigned_abs x) (unsigned_abs y) h)

by_strength : (x y z : ℤ) → (unsigned_abs x < unsigned_abs y) ⊎ (unsigned_abs y ≤ unsigned_abs x) → (unsigned_abs y < unsigned_abs z) ⊎ (unsigned_abs z ≤ unsigned_abs y)
    → stronger (stronger x y) z ≡ stronger x (stronger y z)
by_strength x y z (inl h) (inl k) =
    ap (λ (v : ℤ). stronger v z) (second x y h) ∙ second y z k ∙ sym (second x z (omega arith)) ∙ ap (λ (v : ℤ). stronger x v) (sym (second y z k))
by_strength x y z (inl h) (inr k) = ap (λ (v : ℤ). stronger v z) (second x y h) ∙ first y z k ∙ sym (second x y h) ∙ ap (λ (v : ℤ). stronger x v) (sym (first y z k))
by_strength x y z (inr h) (inl k) = ap (λ (v : ℤ). stronger v z) (first x y h) ∙ ap (λ (v : ℤ). stronger x v) (sym (second y z k))
by_strength x y z (inr h) (inr k) =
    ap (λ (v : ℤ). stronger v z) (first x y h) ∙ first x z (omega arith) ∙ sym (first x y h) ∙ ap (λ (v : ℤ). stronger x v) (sym (first y z k))

pub stronger_assoc : (x y z : ℤ) → stronger (stronger x y) z ≡ stronger x (stronger y z)
stronger_assoc x y z = by_strength x y z (cases_lt (unsigned_abs x) (unsigned_abs y)) (cases_lt (unsigned_abs y) (unsigned_abs z))

-- ---- the steps that have gone before count alone

module _ (F : Table) where
  -- what is spread does not depend on where the last step is told apart
  pub spread_closed : (d : ℤ) (c b : List NumberedStep) (l m : Option NumberedStep) (s : NumberedStep) (ss : List NumberedStep) → close c l ≡ close b m
      → spread F d c l (s ∷ ss) ≡ spread F d b m (s ∷ ss)
  spread_closed d c b l m s ss e =
      ap (λ (x : List NumberedStep). by_option (F s.symbol) (spread F d x (Some s) ss) (λ (inner : Expansions). flat_map (λ (y : Expansion). spread F (stronger d y.dynamic) (x ++ map (marked_by s) y.steps) (option_map (last_by s) y.last) ss) inner)) e

  pub plain_closed : (d : ℤ) (c b : List NumberedStep) (l m : Option NumberedStep) (ss : List NumberedStep) → close c l ≡ close b m
      → map plain (spread F d c l ss) ≡ map plain (spread F d b m ss)
  plain_closed d c b l m [] e = ap (λ (x : List NumberedStep). alternative d x ∷ []) e
  plain_closed d c b l m (s ∷ ss) e = ap (map plain) (spread_closed d c b l m s ss e)

  -- expansions of steps, each gone on with
  pub spread_more : (d : ℤ) (c : List NumberedStep) (l : Option NumberedStep) (xs ys : List NumberedStep)
      → spread F d c l (xs ++ ys) ≡ flat_map (λ (z : Expansion). spread F z.dynamic z.steps z.last ys) (spread F d c l xs)
  spread_more d c l [] ys = sym (append-nil (spread F d c l ys))
  spread_more d c l (s ∷ xs) ys = by_cases (spread_more d (close c l) (Some s) xs ys)
      (λ y. spread_more (stronger d y.dynamic) (close c l ++ map (marked_by s) y.steps) (option_map (last_by s) y.last) xs ys) (F s.symbol)
    where
      by_cases : spread F d (close c l) (Some s) (xs ++ ys) ≡ flat_map (λ (z : Expansion). spread F z.dynamic z.steps z.last ys) (spread F d (close c l) (Some s) xs)
          → ((y : Expansion) → onward F d (close c l) s (xs ++ ys) y ≡ flat_map (λ (z : Expansion). spread F z.dynamic z.steps z.last ys) (onward F d (close c l) s xs y))
          → (o : Option Expansions)
          → by_option o (spread F d (close c l) (Some s) (xs ++ ys)) (λ (inner : Expansions). flat_map (onward F d (close c l) s (xs ++ ys)) inner)
          ≡ flat_map (λ (z : Expansion). spread F z.dynamic z.steps z.last ys) (by_option o (spread F d (close c l) (Some s) xs) (λ (inner : Expansions). flat_map (onward F d (close c l) s xs) inner))
      by_cases one each None = one
      by_cases one each (Some inner) =
          flat_same (onward F d (close c l) s (xs ++ ys)) (λ (y : Expansion). flat_map (λ (z : Expansion). spread F z.dynamic z.steps z.last ys) (onward F d (close c l) s xs y)) each inner
          ∙ flat_flat (onward F d (close c l) s xs) (λ (z : Expansion). spread F z.dynamic z.steps z.last ys) inner

  -- steps that stay
  pub spread_stays : (d : ℤ) (c : List NumberedStep) (l : Option NumberedStep) (bs rest : List NumberedStep) → All (λ (b : NumberedStep). F b.symbol ≡ None) bs
      → map plain (spread F d c l (bs ++ rest)) ≡ map plain (spread F d (close c l ++ bs) None rest)
  spread_stays d c l [] rest stay = plain_closed d c (close c l ++ []) l None rest (sym (append-nil (close c l)))
  spread_stays d c l (b ∷ bs) rest stay =
      ap (λ (o : Option Expansions). map plain (by_option o (spread F d (close c l) (Some b) (bs ++ rest)) (λ (inner : Expansions). flat_map (λ (y : Expansion). spread F (stronger d y.dynamic) (close c l ++ map (marked_by b) y.steps) (option_map (last_by b) y.last) (bs ++ rest)) inner))) (All-head (λ (x : NumberedStep). F x.symbol ≡ None) b bs stay)
      ∙ spread_stays d (close c l) (Some b) bs rest (All-tail (λ (x : NumberedStep). F x.symbol ≡ None) b bs stay)
      ∙ ap (λ (x : List NumberedStep). map plain (spread F d x None rest)) (append_assoc (close c l) (b ∷ []) bs)

-- ---- insertion

-- an expansion inserted in place of a step, after what has gone before it
abbrev pub put : ℤ → List NumberedStep → NumberedStep → Expansion → Expansion
put d c s y = expansion (stronger d y.dynamic) (c ++ map (marked_by s) y.steps) (option_map (last_by s) y.last)

map_twice : (s t u : NumberedStep) → ((v : NumberedStep) → marked_by u v ≡ marked_by s (marked_by t v)) → (xs : List NumberedStep) → map (marked_by u) xs ≡ map (marked_by s) (map (marked_by t) xs)
map_twice s t u same [] = refl
map_twice s t u same (x ∷ xs) = ap (λ (y : NumberedStep). y ∷ map (marked_by u) xs) (same x) ∙ ap (λ ys. marked_by s (marked_by t x) ∷ ys) (map_twice s t u same xs)

option_last : (s t : NumberedStep) (o : Option NumberedStep) → option_map (last_by (last_by s t)) o ≡ option_map (last_by s) (option_map (last_by t) o)
option_last s t None = refl
option_last s t (Some v) = ap (λ (x : NumberedStep). Some x) (last_twice s t v)

close_map : (s : NumberedStep) (c : List NumberedStep) (l : Option NumberedStep) → close (map (marked_by s) c) (option_map (marked_by s) l) ≡ map (marked_by s) (close c l)
close_map s c None = refl
close_map s c (Some v) = sym (map-append (marked_by s) c (v ∷ []))

close_more : (b c : List NumberedStep) (l : Option NumberedStep) → close (b ++ c) l ≡ b ++ close c l
close_more b c None = refl
close_more b c (Some v) = append_assoc b c (v ∷ [])

option_marked : (s t : NumberedStep) (o : Option NumberedStep) → option_map (last_by (marked_by s t)) o ≡ option_map (marked_by s) (option_map (last_by t) o)
option_marked s t None = refl
option_marked s t (Some v) = ap (λ (x : NumberedStep). Some x) (last_marked s t v)

module _ (F : Table) (D : ℤ) (C : List NumberedStep) (s : NumberedStep) where
  -- the inner prefix stands after the outer one
  abbrev Beside : ℤ → List NumberedStep → Option NumberedStep → ℤ → List NumberedStep → Option NumberedStep → Type 0
  Beside e b m d c l = (e ≡ stronger D d) × (close b m ≡ C ++ map (marked_by s) (close c l))

  beside_step : (e d : ℤ) (b c : List NumberedStep) (m l : Option NumberedStep) (t : NumberedStep) → Beside e b m d c l → Beside e (close b m) (Some (marked_by s t)) d (close c l) (Some t)
  beside_step e d b c m l t w = (
    w.0,
    ap (λ (x : List NumberedStep). x ++ marked_by s t ∷ []) w.1
        ∙ append_assoc C (map (marked_by s) (close c l)) (marked_by s t ∷ [])
        ∙ ap (λ (x : List NumberedStep). C ++ x) (sym (map-append (marked_by s) (close c l) (t ∷ []))),
  )

  beside_inner : (e d : ℤ) (b c : List NumberedStep) (m l : Option NumberedStep) (t : NumberedStep) (y : Expansion) → Beside e b m d c l
      → Beside (stronger e y.dynamic) (close b m ++ map (marked_by (marked_by s t)) y.steps) (option_map (last_by (marked_by s t)) y.last)
      (stronger d y.dynamic) (close c l ++ map (marked_by t) y.steps) (option_map (last_by t) y.last)
  beside_inner e d b c m l t y w = (
    ap (λ (x : ℤ). stronger x y.dynamic) w.0 ∙ stronger_assoc D d y.dynamic,
    close_more (close b m) (map (marked_by (marked_by s t)) y.steps) (option_map (last_by (marked_by s t)) y.last)
        ∙ ap (λ (x : List NumberedStep). x ++ close (map (marked_by (marked_by s t)) y.steps) (option_map (last_by (marked_by s t)) y.last)) w.1
        ∙ ap (λ (x : List NumberedStep). (C ++ map (marked_by s) (close c l)) ++ close x (option_map (last_by (marked_by s t)) y.last)) (map_twice s t (marked_by s t) (marked_twice s t) y.steps)
        ∙ ap (λ (x : Option NumberedStep). (C ++ map (marked_by s) (close c l)) ++ close (map (marked_by s) (map (marked_by t) y.steps)) x) (option_marked s t y.last)
        ∙ ap (λ (x : List NumberedStep). (C ++ map (marked_by s) (close c l)) ++ x) (close_map s (map (marked_by t) y.steps) (option_map (last_by t) y.last))
        ∙ append_assoc C (map (marked_by s) (close c l)) (map (marked_by s) (close (map (marked_by t) y.steps) (option_map (last_by t) y.last)))
        ∙ ap (λ (x : List NumberedStep). C ++ x) (sym (map-append (marked_by s) (close c l) (close (map (marked_by t) y.steps) (option_map (last_by t) y.last))))
        ∙ ap (λ (x : List NumberedStep). C ++ map (marked_by s) x) (sym (close_more (close c l) (map (marked_by t) y.steps) (option_map (last_by t) y.last))),
  )

  -- the last expansion of all
  beside_last : (e d : ℤ) (b c : List NumberedStep) (m l : Option NumberedStep) (t : NumberedStep) (y : Expansion) → Beside e b m d c l
      → expansion (stronger e y.dynamic) (close b m ++ map (marked_by (last_by s t)) y.steps) (option_map (last_by (last_by s t)) y.last)
      ≡ put D C s (expansion (stronger d y.dynamic) (close c l ++ map (marked_by t) y.steps) (option_map (last_by t) y.last))
  beside_last e d b c m l t y w =
      ap (λ (x : ℤ). expansion x (close b m ++ map (marked_by (last_by s t)) y.steps) (option_map (last_by (last_by s t)) y.last)) (ap (λ (x : ℤ). stronger x y.dynamic) w.0 ∙ stronger_assoc D d y.dynamic)
      ∙ ap (λ (x : List NumberedStep). expansion (stronger D (stronger d y.dynamic)) x (option_map (last_by (last_by s t)) y.last))
      (ap (λ (x : List NumberedStep). x ++ map (marked_by (last_by s t)) y.steps) w.1
      ∙ ap (λ (x : List NumberedStep). (C ++ map (marked_by s) (close c l)) ++ x) (map_twice s t (last_by s t) (marked_last s t) y.steps)
      ∙ append_assoc C (map (marked_by s) (close c l)) (map (marked_by s) (map (marked_by t) y.steps))
      ∙ ap (λ (x : List NumberedStep). C ++ x) (sym (map-append (marked_by s) (close c l) (map (marked_by t) y.steps))))
      ∙ ap (λ (x : Option NumberedStep). expansion (stronger D (stronger d y.dynamic)) (C ++ map (marked_by s) (close c l ++ map (marked_by t) y.steps)) x) (option_last s t y.last)

  last_expansions : (e d : ℤ) (b c : List NumberedStep) (m l : Option NumberedStep) (t : NumberedStep) → Beside e b m d c l → (ys : Expansions)
      → flat_map (λ (y : Expansion). expansion (stronger e y.dynamic) (close b m ++ map (marked_by (last_by s t)) y.steps) (option_map (last_by (last_by s t)) y.last) ∷ []) ys
      ≡ map (put D C s) (flat_map (λ (y : Expansion). expansion (stronger d y.dynamic) (close c l ++ map (marked_by t) y.steps) (option_map (last_by t) y.last) ∷ []) ys)
  last_expansions e d b c m l t w [] = refl
  last_expansions e d b c m l t w (y ∷ ys) =
      ap (λ (x : Expansion). x ∷ flat_map (λ (z : Expansion). expansion (stronger e z.dynamic) (close b m ++ map (marked_by (last_by s t)) z.steps) (option_map (last_by (last_by s t)) z.last) ∷ []) ys) (beside_last e d b c m l t y w)
      ∙ ap (λ (xs : Expansions). put D C s (expansion (stronger d y.dynamic) (close c l ++ map (marked_by t) y.steps) (option_map (last_by t) y.last)) ∷ xs) (last_expansions e d b c m l t w ys)

  -- expanding what is inserted is inserting what is expanded
  inserted_some : (e d : ℤ) (b c : List NumberedStep) (m l : Option NumberedStep) (t : NumberedStep) (ts : List NumberedStep) → Beside e b m d c l
      → spread F e b m (inserted s (t ∷ ts)) ≡ map (put D C s) (spread F d c l (t ∷ ts))
  inserted_some e d b c m l t [] w = by_cases (F t.symbol)
    where
      by_cases : (o : Option Expansions)
          → by_option o (expansion e (close b m) (Some (last_by s t)) ∷ []) (λ (inner : Expansions). flat_map (λ (y : Expansion). expansion (stronger e y.dynamic) (close b m ++ map (marked_by (last_by s t)) y.steps) (option_map (last_by (last_by s t)) y.last) ∷ []) inner)
          ≡ map (put D C s) (by_option o (expansion d (close c l) (Some t) ∷ []) (λ (inner : Expansions). flat_map (λ (y : Expansion). expansion (stronger d y.dynamic) (close c l ++ map (marked_by t) y.steps) (option_map (last_by t) y.last) ∷ []) inner))
      by_cases None = ap (λ (x : ℤ). expansion x (close b m) (Some (last_by s t)) ∷ []) w.0 ∙ ap (λ (x : List NumberedStep). expansion (stronger D d) x (Some (last_by s t)) ∷ []) w.1
      by_cases (Some inner) = last_expansions e d b c m l t w inner
  inserted_some e d b c m l t (u ∷ ts) w = by_cases
      (inserted_some e d (close b m) (close c l) (Some (marked_by s t)) (Some t) u ts (beside_step e d b c m l t w))
      (λ y. inserted_some (stronger e y.dynamic) (stronger d y.dynamic) (close b m ++ map (marked_by (marked_by s t)) y.steps) (close c l ++ map (marked_by t) y.steps) (option_map (last_by (marked_by s t)) y.last) (option_map (last_by t) y.last) u ts (beside_inner e d b c m l t y w))
      (F t.symbol)
    where
      by_cases : spread F e (close b m) (Some (marked_by s t)) (inserted s (u ∷ ts)) ≡ map (put D C s) (spread F d (close c l) (Some t) (u ∷ ts))
          → ((y : Expansion) → onward F e (close b m) (marked_by s t) (inserted s (u ∷ ts)) y ≡ map (put D C s) (onward F d (close c l) t (u ∷ ts) y))
          → (o : Option Expansions)
          → by_option o (spread F e (close b m) (Some (marked_by s t)) (inserted s (u ∷ ts))) (λ (inner : Expansions). flat_map (onward F e (close b m) (marked_by s t) (inserted s (u ∷ ts))) inner)
          ≡ map (put D C s) (by_option o (spread F d (close c l) (Some t) (u ∷ ts)) (λ (inner : Expansions). flat_map (onward F d (close c l) t (u ∷ ts)) inner))
      by_cases one each None = one
      by_cases one each (Some inner) =
          flat_same (onward F e (close b m) (marked_by s t) (inserted s (u ∷ ts))) (λ (y : Expansion). map (put D C s) (onward F d (close c l) t (u ∷ ts) y)) each inner
          ∙ sym (map_flat (put D C s) (onward F d (close c l) t (u ∷ ts)) inner)

  pub inserted_all : (q : Alternative) → spread F (stronger D q.dynamic) C None (inserted s q.steps) ≡ map (put D C s) (spread_of F q)
  inserted_all q = by_steps q.dynamic q.steps
    where
      by_steps : (d : ℤ) (steps : List NumberedStep) → spread F (stronger D d) C None (inserted s steps) ≡ map (put D C s) (spread F d [] None steps)
      by_steps d [] = ap (λ (x : List NumberedStep). expansion (stronger D d) x None ∷ []) (sym (append-nil C))
      by_steps d (t ∷ ts) = inserted_some (stronger D d) d C [] None None t ts (refl, sym (append-nil C))

-- A step that is replaced by the expansions of its alternatives is replaced by its alternatives, and
-- these are expanded.
pub spread_replaced : (F : Table) (d : ℤ) (c : List NumberedStep) (s : NumberedStep) (ss : List NumberedStep) (inner : Alternatives) → F s.symbol ≡ Some (spread_all F inner)
    → spread F d c None (s ∷ ss) ≡ flat_map (λ (q : Alternative). spread F (stronger d q.dynamic) c None (inserted s q.steps ++ ss)) inner
spread_replaced F d c s ss inner is =
    ap (λ (o : Option Expansions). by_option o (spread F d c (Some s) ss) (λ (found : Expansions). flat_map (onward F d c s ss) found)) is
    ∙ sym (flat_flat (spread_of F) (onward F d c s ss) inner)
    ∙ flat_same (λ (q : Alternative). flat_map (onward F d c s ss) (spread_of F q)) (λ (q : Alternative). spread F (stronger d q.dynamic) c None (inserted s q.steps ++ ss)) one inner
  where
    one : (q : Alternative) → flat_map (onward F d c s ss) (spread_of F q) ≡ spread F (stronger d q.dynamic) c None (inserted s q.steps ++ ss)
    one q =
        sym (flat_mapped (λ (z : Expansion). spread F z.dynamic z.steps z.last ss) (put d c s) (spread_of F q))
        ∙ ap (flat_map (λ (z : Expansion). spread F z.dynamic z.steps z.last ss)) (sym (inserted_all F d c s q))
        ∙ sym (spread_more F (stronger d q.dynamic) c None (inserted s q.steps) ss)

-- ---- tables that agree

pub spread_same : (F G : Table) (d : ℤ) (c : List NumberedStep) (l : Option NumberedStep) (steps : List NumberedStep) → All (λ (s : NumberedStep). F s.symbol ≡ G s.symbol) steps
    → spread F d c l steps ≡ spread G d c l steps
spread_same F G d c l [] same = refl
spread_same F G d c l (s ∷ ss) same =
    ap (λ (o : Option Expansions). by_option o (spread F d (close c l) (Some s) ss) (λ (inner : Expansions). flat_map (onward F d (close c l) s ss) inner)) (All-head (λ (x : NumberedStep). F x.symbol ≡ G x.symbol) s ss same)
    ∙ by_cases (spread_same F G d (close c l) (Some s) ss rest) (λ y. spread_same F G (stronger d y.dynamic) (close c l ++ map (marked_by s) y.steps) (option_map (last_by s) y.last) ss rest) (G s.symbol)
  where
    rest : All (λ (x : NumberedStep). F x.symbol ≡ G x.symbol) ss
    rest = All-tail (λ (x : NumberedStep). F x.symbol ≡ G x.symbol) s ss same

    by_cases : spread F d (close c l) (Some s) ss ≡ spread G d (close c l) (Some s) ss
        → ((y : Expansion) → onward F d (close c l) s ss y ≡ onward G d (close c l) s ss y)
        → (o : Option Expansions)
        → by_option o (spread F d (close c l) (Some s) ss) (λ (inner : Expansions). flat_map (onward F d (close c l) s ss) inner)
        ≡ by_option o (spread G d (close c l) (Some s) ss) (λ (inner : Expansions). flat_map (onward G d (close c l) s ss) inner)
    by_cases one each None = one
    by_cases one each (Some inner) = flat_same (onward F d (close c l) s ss) (onward G d (close c l) s ss) each inner

pub spread_all_same : (F G : Table) (ps : Alternatives) → All (λ (p : Alternative). All (λ (s : NumberedStep). F s.symbol ≡ G s.symbol) p.steps) ps → spread_all F ps ≡ spread_all G ps
spread_all_same F G [] same = refl
spread_all_same F G (p ∷ ps) same =
    ap (λ (xs : Expansions). xs ++ spread_all F ps) (spread_same F G p.dynamic [] None p.steps (All-head (λ (x : Alternative). All (λ (s : NumberedStep). F s.symbol ≡ G s.symbol) x.steps) p ps same))
    ∙ ap (λ (xs : Expansions). spread_of G p ++ xs) (spread_all_same F G ps (All-tail (λ (x : Alternative). All (λ (s : NumberedStep). F s.symbol ≡ G s.symbol) x.steps) p ps same))

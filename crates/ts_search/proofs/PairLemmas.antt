-- Lists that agree in pairs, and tables.
use Rattle.std.proofs.Common.{◌≡◌, ◌∙◌, sym, ap, refl, subst, ℕ, zero, suc, ◌+◌, ◌<◌, ◌≤◌, ◌⊎◌, inl, inr, ⊎_elim, List, [], ◌∷◌, ◌++◌, map, length, take, get_or, Some, Bool, slice_get, true, false, arith}
use Rattle.std.proofs.lemmas.List.{take_all, take_more, length-append}
use Rattle.std.proofs.lemmas.Option.{slice_get-get_or}
use Rattle.ts_query_syntax.specs.declared.read_query.Item.{Item}
use Rattle.spec_matches.specs.declared.found.Capture.{Capture}
use Rattle.spec_matches.specs.declared.placing.Slot.{Slot}
use Rattle.spec_matches.specs.declared.placing.Placing.{Placing}
use Rattle.spec_matches.specs.declared.scene.Scene.{Scene}
use Rattle.spec_matches.specs.Siblings.{nameds}
use Rattle.spec_matches.specs.Embedding.{IsWayFrom}
use Rattle.spec_matches.specs.Taking.{On, Embedded, shapes_of, slots_of}
use Rattle.ts_search.specs.declared.stand.Siblings.{Siblings}
use Rattle.ts_search.specs.declared.stand.Wanted.{Wanted}
use Rattle.ts_search.specs.Memory.{Told, WaysOf}
use Rattle.ts_search.specs.Table.{Takes}
use Rattle.ts_search.specs.Adding.{Holds, IsLike, Yields}
use Rattle.ts_search.specs.Sets.{SameMembers, SameWay}
use Rattle.ts_search.specs.Ways.{Pairs, Numbered, AreWays, IsRow, AreRowsOf, IsTable, SomeWays, SomeRow, SomeRows, SomeTable, HasRow, HasRows, HasTable, ItemTakes, TakenOf, slot_of, size_of}
use Rattle.ts_search.proofs.ShapeLemmas.{taken_at, slots_are, within_round}
use Rattle.ts_search.proofs.CarryLemmas.{told_any, told_like, way_any, way_to}
use Rattle.ts_search.proofs.TakeLemmas.{take_push}
use Rattle.ts_search.proofs.SetLemmas.{way_through}
use Rattle.ts_search.proofs.YieldLemmas.{holds_exact, holds_more, holds_same, yields_all, yields_like}

module _ {X Y : Type 0} (P : X → Y → Type 0) where
  push : (xs : List X) (ys : List Y) (x : X) (y : Y) → Pairs P xs ys → P x y → Pairs P (xs ++ x ∷ []) (ys ++ y ∷ [])
  push [] [] x y h p = (p, tt)
  push [] (b ∷ ys) x y h p = absurd h
  push (a ∷ xs) [] x y h p = absurd h
  push (a ∷ xs) (b ∷ ys) x y h p = (h.0, push xs ys x y h.1 p)

  pub pairs_more : (xs : List X) (n : ℕ) (x : X) (ys : List Y) (y : Y) → n < length xs → x ≡ get_or xs n x → Pairs P (take n xs) ys → P x y → Pairs P (take (n + 1) xs) (ys ++ y ∷ [])
  pairs_more xs n x ys y below is before one = subst (λ (l : List X). Pairs P l (ys ++ y ∷ [])) (sym (take_push xs n x below is)) (push (take n xs) ys x y before one)

  pub pairs_more_at : (xs : List X) (n : ℕ) (d : X) (ys : List Y) (y : Y) → n < length xs → Pairs P (take n xs) ys → P (get_or xs n d) y → Pairs P (take (n + 1) xs) (ys ++ y ∷ [])
  pairs_more_at xs n d ys y below before one = subst (λ (l : List X). Pairs P l (ys ++ y ∷ [])) (sym (take_more xs n d below)) (push (take n xs) ys (get_or xs n d) y before one)

  left : (xs : List X) (ys : List Y) (k : ℕ) (y : Y) → Pairs P xs ys → slice_get ys k ≡ Some y → (x : X) × (slice_get xs k ≡ Some x) × P x y
  left [] [] k y h e = absurd (nothing k e)
    where
      nothing : (j : ℕ) → slice_get {X = Y} [] j ≡ Some y → ⊥
      nothing j f = cc
  left [] (b ∷ ys) k y h e = absurd h
  left (a ∷ xs) [] k y h e = absurd h
  left (a ∷ xs) (b ∷ ys) zero y h e = (a, refl, subst (P a) (same e) h.0)
    where
      same : Some b ≡ Some y → b ≡ y
      same f = cc
  left (a ∷ xs) (b ∷ ys) (suc k) y h e = left xs ys k y h.1 e

  right : (xs : List X) (ys : List Y) (k : ℕ) (x : X) → Pairs P xs ys → slice_get xs k ≡ Some x → (y : Y) × (slice_get ys k ≡ Some y) × P x y
  right [] [] k x h e = absurd (nothing k e)
    where
      nothing : (j : ℕ) → slice_get {X = X} [] j ≡ Some x → ⊥
      nothing j f = cc
  right [] (b ∷ ys) k x h e = absurd h
  right (a ∷ xs) [] k x h e = absurd h
  right (a ∷ xs) (b ∷ ys) zero x h e = (b, refl, subst (λ (z : X). P z b) (same e) h.0)
    where
      same : Some a ≡ Some x → a ≡ x
      same f = cc
  right (a ∷ xs) (b ∷ ys) (suc k) x h e = right xs ys k x h.1 e

-- lists that agree with numbers
module _ {Y : Type 0} (P : ℕ → Y → Type 0) where
  pub last : (ys : List Y) (y z : Y) (k : ℕ) → slice_get (ys ++ y ∷ []) k ≡ Some z → (slice_get ys k ≡ Some z) ⊎ ((k ≡ length ys) × (y ≡ z))
  last [] y z zero e = inr (refl, some e)
    where
      some : Some y ≡ Some z → y ≡ z
      some f = cc
  last [] y z (suc k) e = absurd (nothing e)
    where
      nothing : slice_get {X = Y} [] k ≡ Some z → ⊥
      nothing f = cc
  last (a ∷ ys) y z zero e = inl e
  last (a ∷ ys) y z (suc k) e = ⊎_elim (λ h. inl h) (λ h. inr ((let f = h.0 in omega (arith, f)), h.1)) (last ys y z k e)

  pub numbered_none : (ys : List Y) → ys ≡ [] → Numbered P 0 ys
  numbered_none ys e = record { many = ap length e; each = λ k y f. absurd (nothing k y (subst (λ (l : List Y). slice_get l k ≡ Some y) e f)) }
    where
      nothing : (k : ℕ) (y : Y) → slice_get {X = Y} [] k ≡ Some y → ⊥
      nothing k y f = cc

  pub numbered_more : (n : ℕ) (ys more : List Y) (y : Y) → more ≡ ys ++ y ∷ [] → P n y → Numbered P n ys → Numbered P (n + 1) more
  numbered_more n ys more y e one before = record {
    many = ap length e ∙ (let m = before.many in grind (arith, length-append));
    each = λ k z f. ⊎_elim
        (λ h. before.each k z h)
        (λ h. subst (λ (w : Y). P k w) h.1 (subst (λ (j : ℕ). P j y) (sym (h.0 ∙ before.many)) one))
        (last ys y z k (subst (λ (l : List Y). slice_get l k ≡ Some z) e f));
  }

  pub numbered_all : (n count : ℕ) (ys : List Y) → n ≤ count → count ≤ n → Numbered P n ys → Numbered P count ys
  numbered_all n count ys le ge h = let e : n ≡ count = omega arith in subst (λ (m : ℕ). Numbered P m ys) e h

  at : (count : ℕ) (ys : List Y) (k : ℕ) (d : Y) → Numbered P count ys → k < count → (y : Y) × (slice_get ys k ≡ Some y) × P k y
  at count ys k d h below =
      let e = slice_get-get_or ys k d (let m = h.many in omega (arith, m)) in
      (get_or ys k d, e, h.each k (get_or ys k d) e)

abbrev Table : Type 0
Table = List (List (List (List (List Capture))))

-- ---- rows and tables that grow, of which some ways are left out

pub row_none : (scene : Scene) (i : Item) (o : ℕ) (w : Bool) (row : List (List (List Capture))) → row ≡ [] → HasRow scene i o [] w w row
row_none scene i o w row e = holds_exact (SomeRow scene i o [] row) (IsRow scene i o [] row) w (subst (SomeRow scene i o []) (sym e) tt) (subst (IsRow scene i o []) (sym e) tt)

pub row_more : (scene : Scene) (i : Item) (o : ℕ) (siblings : List ℕ) (n : ℕ) (u v w : Bool) (row : List (List (List Capture))) (ways : List (List Capture)) → n < length siblings
    → HasRow scene i o (take n siblings) u v row → Yields SameMembers (ItemTakes scene i o (get_or siblings n 0)) v w ways → HasRow scene i o (take (n + 1) siblings) u w (row ++ ways ∷ [])
row_more scene i o siblings n u v w row ways below before one =
    holds_more (SomeRow scene i o (take n siblings) row) (IsRow scene i o (take n siblings) row) (SomeRow scene i o (take (n + 1) siblings) (row ++ ways ∷ [])) (IsRow scene i o (take (n + 1) siblings) (row ++ ways ∷ [])) u v w before
    one.earlier
    (λ h. pairs_more_at (SomeWays scene i o) siblings n 0 row ways below h one.part)
    (λ e h. pairs_more_at (AreWays scene i o) siblings n 0 row ways below h (yields_all SameMembers (ItemTakes scene i o (get_or siblings n 0)) v w ways one e))

pub row_all : (scene : Scene) (i : Item) (o : ℕ) (siblings : List ℕ) (n : ℕ) (u v : Bool) (row : List (List (List Capture))) → length siblings ≤ n → HasRow scene i o (take n siblings) u v row → HasRow scene i o siblings u v row
row_all scene i o siblings n u v row past h = subst (λ (l : List ℕ). HasRow scene i o l u v row) (take_all n siblings past) h

-- the rows of the first places of a round
pub record HasFirst (scene : Scene) (siblings : List ℕ) (i : Item) (n : ℕ) (was now : Bool) (rows : List (List (List (List Capture)))) : Type 0 where
  pub it : Holds (Numbered (λ o row. SomeRow scene i o siblings row) n rows) (Numbered (λ o row. IsRow scene i o siblings row) n rows) was now

module _ (scene : Scene) (siblings : List ℕ) (i : Item) where
  abbrev SomeUpTo : ℕ → List (List (List (List Capture))) → Type 0
  SomeUpTo n rows = Numbered (λ o row. SomeRow scene i o siblings row) n rows

  abbrev AllUpTo : ℕ → List (List (List (List Capture))) → Type 0
  AllUpTo n rows = Numbered (λ o row. IsRow scene i o siblings row) n rows

  pub rows_none : (w : Bool) (rows : List (List (List (List Capture)))) → rows ≡ [] → HasFirst scene siblings i 0 w w rows
  rows_none w rows e = record { it = holds_exact (SomeUpTo 0 rows) (AllUpTo 0 rows) w (numbered_none (λ o row. SomeRow scene i o siblings row) rows e) (numbered_none (λ o row. IsRow scene i o siblings row) rows e) }

  pub rows_more : (n : ℕ) (u v w : Bool) (rows more : List (List (List (List Capture)))) (row : List (List (List Capture))) → more ≡ rows ++ row ∷ [] → HasRow scene i n siblings v w row → HasFirst scene siblings i n u v rows
      → HasFirst scene siblings i (n + 1) u w more
  rows_more n u v w rows more row e one before = record {
    it = holds_more (SomeUpTo n rows) (AllUpTo n rows) (SomeUpTo (n + 1) more) (AllUpTo (n + 1) more) u v w before.it one.earlier
        (λ h. numbered_more (λ o row. SomeRow scene i o siblings row) n rows more row e one.holds h)
        (λ f h. numbered_more (λ o row. IsRow scene i o siblings row) n rows more row e (one.all f) h);
  }

  pub rows_all : (n : ℕ) (u v : Bool) (rows : List (List (List (List Capture)))) → n ≤ size_of i → size_of i ≤ n → HasFirst scene siblings i n u v rows → HasRows scene siblings i u v rows
  rows_all n u v rows le ge h =
      holds_same (SomeUpTo n rows) (AllUpTo n rows) (SomeRows scene siblings i rows) (AreRowsOf scene siblings i rows) u v h.it
      (numbered_all (λ o row. SomeRow scene i o siblings row) n (size_of i) rows le ge) (numbered_all (λ o row. IsRow scene i o siblings row) n (size_of i) rows le ge)

pub table_none : (scene : Scene) (siblings : List ℕ) (w : Bool) (table : Table) → table ≡ [] → HasTable scene siblings [] w w table
table_none scene siblings w table e = holds_exact (SomeTable scene siblings [] table) (IsTable scene siblings [] table) w (subst (SomeTable scene siblings []) (sym e) tt) (subst (IsTable scene siblings []) (sym e) tt)

pub table_more : (scene : Scene) (siblings : List ℕ) (is : List Item) (n : ℕ) (i : Item) (u v w : Bool) (table : Table) (rows : List (List (List (List Capture)))) → n < length is → i ≡ get_or is n i
    → HasTable scene siblings (take n is) u v table → HasRows scene siblings i v w rows → HasTable scene siblings (take (n + 1) is) u w (table ++ rows ∷ [])
table_more scene siblings is n i u v w table rows below same before one =
    holds_more (SomeTable scene siblings (take n is) table) (IsTable scene siblings (take n is) table) (SomeTable scene siblings (take (n + 1) is) (table ++ rows ∷ [])) (IsTable scene siblings (take (n + 1) is) (table ++ rows ∷ [])) u v w before
    one.earlier
    (λ h. pairs_more (SomeRows scene siblings) is n i table rows below same h one.holds)
    (λ e h. pairs_more (AreRowsOf scene siblings) is n i table rows below same h (one.all e))

pub table_all : (scene : Scene) (siblings : List ℕ) (is : List Item) (n : ℕ) (u v : Bool) (table : Table) → length is ≤ n → HasTable scene siblings (take n is) u v table → HasTable scene siblings is u v table
table_all scene siblings is n u v table past h = subst (λ (l : List Item). HasTable scene siblings l u v table) (take_all n is past) h

-- ---- what a table takes

module _ (scene : Scene) (is : List Item) (siblings : List ℕ) (table : Table) where
  module _ (h : SomeTable scene siblings is table) where
    to : (k o p : ℕ) (c : List Capture) → Takes table k o p c → IsLike SameMembers (On (TakenOf scene is) siblings k o p) c
    to k o p c t =
        let i = left (SomeRows scene siblings) is table k t.rows h t.are_rows in
        let row = i.2.each o t.row t.is_row in
        let n = left (SomeWays scene i.0 o) siblings t.row p t.ways row t.are_ways in
        let d = n.2.only c t.one in
        (d.0, (n.0, n.1, (taken_at scene is k o n.0 d.0).1 (i.0, i.1, d.1)), d.2)

    any : (k o p : ℕ) (c : List Capture) → On (TakenOf scene is) siblings k o p c → (d : List Capture) × Takes table k o p d
    any k o p c (n, there, w) =
        let i = (taken_at scene is k o n c).0 w in
        let rows = right (SomeRows scene siblings) is table k i.0 h i.1 in
        let row = at (λ o row. SomeRow scene i.0 o siblings row) (size_of i.0) rows.0 o [] rows.2 (within_round scene i.0 o n c i.2) in
        let ways = right (SomeWays scene i.0 o) siblings row.0 p n row.2 there in
        let d = ways.2.any c i.2 in
        (d.0, record { rows = rows.0; are_rows = rows.1; row = row.0; is_row = row.1; ways = ways.0; are_ways = ways.1; one = d.1 })

  from : IsTable scene siblings is table → (k o p : ℕ) (c : List Capture) → On (TakenOf scene is) siblings k o p c → IsLike SameMembers (Takes table k o p) c
  from h k o p c (n, there, w) =
      let i = (taken_at scene is k o n c).0 w in
      let rows = right (AreRowsOf scene siblings) is table k i.0 h i.1 in
      let row = at (λ o row. IsRow scene i.0 o siblings row) (size_of i.0) rows.0 o [] rows.2 (within_round scene i.0 o n c i.2) in
      let ways = right (AreWays scene i.0 o) siblings row.0 p n row.2 there in
      let d = ways.2.all c i.2 in
      (d.0, record { rows = rows.0; are_rows = rows.1; row = row.0; is_row = row.1; ways = ways.0; are_ways = ways.1; one = d.1 }, d.2)

  abbrev Taken : ℕ → ℕ → ℕ → List Capture → Type 0
  Taken = On (TakenOf scene is) siblings

  pub fully_are : (wanted : Wanted) (u v x : Bool) → HasTable scene siblings is u v table → (s : Siblings) → s.table ≡ table → (closed : Bool) → s.closed ≡ closed → (named : List Bool) → s.named ≡ named → (slots : List Slot) (found : List Placing)
      → named ≡ nameds scene.nodes siblings → slots ≡ map slot_of is → Yields SameWay (Told wanted 0 (WaysOf s slots 0 0 true)) v x found → Yields SameWay (Told wanted 0 (Embedded scene is closed siblings)) u x found
  fully_are wanted u v x has s et closed ec named ens slots found en er yields =
      yields_like SameWay way_through (Told wanted 0 (IsWayFrom (Takes table) named closed slots 0 0 true)) (Told wanted 0 (Embedded scene is closed siblings)) u v x found told has.earlier
      (told_like wanted 0 (IsWayFrom (Takes table) named closed slots 0 0 true) (Embedded scene is closed siblings) to_scene)
      (told_any wanted 0 (Embedded scene is closed siblings) (IsWayFrom (Takes table) named closed slots 0 0 true) any_there)
      (λ e. told_like wanted 0 (Embedded scene is closed siblings) (IsWayFrom (Takes table) named closed slots 0 0 true) (of_scene e))
    where
      told : Yields SameWay (Told wanted 0 (IsWayFrom (Takes table) named closed slots 0 0 true)) v x found
      told =
          subst (λ (l : Table). Yields SameWay (Told wanted 0 (IsWayFrom (Takes l) named closed slots 0 0 true)) v x found) et
          (subst (λ (b : Bool). Yields SameWay (Told wanted 0 (IsWayFrom (Takes s.table) named b slots 0 0 true)) v x found) ec
          (subst (λ (l : List Bool). Yields SameWay (Told wanted 0 (IsWayFrom (Takes s.table) l s.closed slots 0 0 true)) v x found) ens yields))

      same : slots_of (shapes_of is) ≡ slots
      same = slots_are is ∙ sym er

      back : (k o p : ℕ) (c : List Capture) → Takes table k o p c → (d : List Capture) × Taken k o p d
      back k o p c t = let x = to has.holds k o p c t in (x.0, x.1)

      in_of : (f : Placing) → Embedded scene is closed siblings f → IsWayFrom Taken named closed slots 0 0 true f
      in_of f w = subst (λ (b : List Bool). IsWayFrom Taken b closed slots 0 0 true f) (sym en) (subst (λ (l : List Slot). IsWayFrom Taken (nameds scene.nodes siblings) closed l 0 0 true f) same w)

      of_in : (f : Placing) → IsWayFrom Taken named closed slots 0 0 true f → Embedded scene is closed siblings f
      of_in f w = subst (λ (l : List Slot). IsWayFrom Taken (nameds scene.nodes siblings) closed l 0 0 true f) (sym same) (subst (λ (b : List Bool). IsWayFrom Taken b closed slots 0 0 true f) en w)

      to_scene : (f : Placing) → IsWayFrom (Takes table) named closed slots 0 0 true f → IsLike SameWay (Embedded scene is closed siblings) f
      to_scene f w = let x = way_to (Takes table) Taken (any has.holds) (to has.holds) named closed slots f w in (x.0, of_in x.0 x.1, x.2)

      any_there : (f : Placing) → Embedded scene is closed siblings f → (g : Placing) × IsWayFrom (Takes table) named closed slots 0 0 true g × (g.first ≡ f.first)
      any_there f w = way_any Taken (Takes table) back (any has.holds) named closed slots f (in_of f w)

      of_scene : v ≡ false → (f : Placing) → Embedded scene is closed siblings f → IsLike SameWay (IsWayFrom (Takes table) named closed slots 0 0 true) f
      of_scene e f w = way_to Taken (Takes table) back (from (has.all e)) named closed slots f (in_of f w)

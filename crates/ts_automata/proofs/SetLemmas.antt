-- Numbered sets, row by row.
use Rattle.std.proofs.Common.{◌≡◌, ◌∙◌, sym, ap, refl, subst, ℕ, zero, suc, ◌+◌, ◌<◌, ◌≤◌, ◌⊎◌, inl, inr, ⊎_elim, List, [], ◌∷◌, ◌++◌, length, take, get_or, slice_get, Some, append_assoc, length-append, arith}
use Rattle.std.specs.Global.{Vec}
use Rattle.std.specs.List.{Contains}
use Rattle.std.proofs.lemmas.List.{take_more}
use Rattle.std.proofs.lemmas.List.Elements.{Contains-append_left, Contains-push, Contains-push_cases}
use Rattle.std.proofs.lemmas.Option.{slice_get_within, slice_get-map, slice_get_read, slice_get-get_or}
use Rattle.std.specs.Option.{option_map}
use Rattle.ts_automata.specs.declared.node.Node.{Node}
use Rattle.ts_automata.specs.Reads.{Takes}
use Rattle.ts_automata.specs.Sets.{Adds, Moves, Grew, IsNextSet, IsFirst, IsRow, IsSubset, EachAt, sets_of}
use Rattle.ts_automata.proofs.AddsLemmas.{adds_none, adds_both}
use Rattle.ts_base.proofs.PlaceLemmas.{in_prefix}

-- ---- the nodes to which a character leads

pub moved_none : (T : List Node) (set : List ℕ) (c : ℕ) → Adds (Moves T (take 0 set) c) [] []
moved_none T set c = adds_none (Moves T (take 0 set) c) [] (λ i m. none m.from m.there)
  where
    none : (x : ℕ) → Contains (take 0 set) x → ⊥
    none x (k, below, _) = omega arith

pub moved_step : (T : List Node) (set : List ℕ) (k d c : ℕ) (a b : List ℕ) → k < length set → Adds (Moves T (take k set) c) [] a → Adds (Takes T (get_or set k d) c) a b
    → Adds (Moves T (take (k + 1) set) c) [] b
moved_step T set k d c a b below before one =
    let x : ℕ = get_or set k d in
    rw (take_more set k d below) (adds_both (Moves T (take k set) c) (Takes T x c) (Moves T (take k set ++ x ∷ []) c) [] a b before one
    (λ i m. record { from = m.from; there = Contains-append_left (take k set) (x ∷ []) m.from m.there; takes = m.takes })
    (λ i t. record { from = x; there = Contains-push (take k set) x; takes = t })
    (λ i m. ⊎_elim (λ w. inl (record { from = m.from; there = w; takes = m.takes })) (λ e. inr (subst (λ (s : ℕ). Takes T s c i) (sym e) m.takes))
    (Contains-push_cases (take k set) x m.from m.there)))

-- ---- lists that grow

pub at_last : {X : Type 0} (xs : List X) (x y : X) (k : ℕ) → length xs ≤ k → slice_get (xs ++ x ∷ []) k ≡ Some y → (k ≡ length xs) × (y ≡ x)
at_last [] x y zero past at = (refl, (let e : Some x ≡ Some y = at in cc))
at_last [] x y (suc k) past at = absurd (let w = slice_get_within (x ∷ []) (suc k) y at in omega arith)
at_last (z ∷ xs) x y zero past at = absurd (omega arith)
at_last (z ∷ xs) x y (suc k) past at = let r = at_last xs x y k (omega arith) at in (ap suc r.0, r.1)

cases_lt : (m n : ℕ) → (m < n) ⊎ (n ≤ m)
cases_lt zero zero = inr (omega arith)
cases_lt zero (suc n) = inl (omega arith)
cases_lt (suc m) zero = inr (omega arith)
cases_lt (suc m) (suc n) = ⊎_elim (λ h. inl (omega arith)) (λ h. inr (omega arith)) (cases_lt m n)

pub each_more : {X : Type 0} (P : ℕ → X → Type 0) (xs : List X) (x : X) → EachAt P xs → P (length xs) x → EachAt P (xs ++ x ∷ [])
each_more {X} P xs x all one k y at =
    ⊎_elim (λ lt. all k y (sym (in_prefix xs (x ∷ []) k lt) ∙ at))
    (λ past. let r = at_last xs x y k past at in subst (λ (j : ℕ). P j y) (sym r.0) (subst (λ (z : X). P (length xs) z) (sym r.1) one))
    (cases_lt k (length xs))

pub grew_both : (a b c : List (List ℕ)) → Grew a b → Grew b c → Grew a c
grew_both a b c (m, e) (n, f) = (m ++ n, f ∙ ap (λ (l : List (List ℕ)). l ++ n) e ∙ append_assoc a m n)

pub at_grown : (a b : List (List ℕ)) (k : ℕ) (s : List ℕ) → Grew a b → slice_get a k ≡ Some s → slice_get b k ≡ Some s
at_grown a b k s (m, e) at = ap (λ (l : List (List ℕ)). slice_get l k) e ∙ in_prefix a m k (slice_get_within a k s at) ∙ at

pub at_shrunk : (a b : List (List ℕ)) (k : ℕ) (s : List ℕ) → Grew a b → k < length a → slice_get b k ≡ Some s → slice_get a k ≡ Some s
at_shrunk a b k s (m, e) lt at = sym (in_prefix a m k lt) ∙ ap (λ (l : List (List ℕ)). slice_get l k) (sym e) ∙ at

pub grown_longer : (a b : List (List ℕ)) → Grew a b → length a ≤ length b
grown_longer a b (m, e) = omega (arith, ap (λ (l : List (List ℕ)). length l) e, length-append a m)

pub first_grows : (T : List Node) (a b : List (List ℕ)) (kernel : List ℕ) (n : ℕ) → Grew a b → IsFirst T a kernel n → IsFirst T b kernel n
first_grows T a b kernel n g f = record { set = f.set; at = at_grown a b n f.set g f.at; closed = f.closed }

pub next_grows : (T : List Node) (a b : List (List ℕ)) (s : List ℕ) (c m : ℕ) → Grew a b → IsNextSet T a s c m → IsNextSet T b s c m
next_grows T a b s c m g f = record { kernel = f.kernel; moves = f.moves; set = f.set; at = at_grown a b m f.set g f.at; closed = f.closed }

-- ---- the numbers of the first sets

pub record Begun (T : List Node) (kernels : List (List ℕ)) (start sets : List (List ℕ)) (numbers : List ℕ) (k : ℕ) : Type 0 where
  pub grows : Grew start sets
  pub size : length numbers ≡ k
  pub first : EachAt (λ v n. (kernel : List ℕ) → slice_get kernels v ≡ Some kernel → IsFirst T sets kernel n) numbers

pub begun_more : (T : List Node) (kernels : List (Vec ℕ)) (start a b : List (List ℕ)) (numbers : List ℕ) (k m : ℕ) (kernel : Vec ℕ) → k < length kernels → kernel ≡ get_or kernels k kernel
    → Begun T (sets_of kernels) start a numbers k → Grew a b → IsFirst T b kernel.items m → Begun T (sets_of kernels) start b (numbers ++ m ∷ []) (k + 1)
begun_more T kernels start a b numbers k m kernel below is before g one = record {
  grows = grew_both start a b before.grows g;
  size = omega (arith, length-append numbers (m ∷ []), before.size);
  first = each_more (λ v n. (x : List ℕ) → slice_get (sets_of kernels) v ≡ Some x → IsFirst T b x n) numbers m
      (λ v n at x there. first_grows T a b x n g (before.first v n at x there))
      (λ x there.
      let place : slice_get (sets_of kernels) k ≡ Some kernel.items = slice_get-map (λ (v : Vec ℕ). v.items) kernels k ∙ ap (option_map (λ (v : Vec ℕ). v.items)) (slice_get_read kernels (length kernels) k kernel refl below is) in
      let same : Some kernel.items ≡ Some x = sym place ∙ ap (λ (j : ℕ). slice_get (sets_of kernels) j) (sym before.size) ∙ there in
      let e : kernel.items ≡ x = cc in
      subst (λ (l : List ℕ). IsFirst T b l m) e one);
}

-- ---- one row

pub record Rowing (T : List Node) (bounds : List ℕ) (start sets : List (List ℕ)) (row : List ℕ) (at k : ℕ) : Type 0 where
  pub grows : Grew start sets
  pub size : length row ≡ k
  pub next : (s : List ℕ) → slice_get start at ≡ Some s → EachAt (λ j m. (c : ℕ) → slice_get bounds j ≡ Some c → IsNextSet T sets s c m) row

pub rowing_more : (T : List Node) (bounds : List ℕ) (start a b : List (List ℕ)) (row : List ℕ) (at k m d : ℕ) → k < length bounds → Rowing T bounds start a row at k → Grew a b
    → ((s : List ℕ) → slice_get a at ≡ Some s → IsNextSet T b s (get_or bounds k d) m) → Rowing T bounds start b (row ++ m ∷ []) at (k + 1)
rowing_more T bounds start a b row at k m d below before g one = record {
  grows = grew_both start a b before.grows g;
  size = omega (arith, length-append row (m ∷ []), before.size);
  next = λ s is. each_more (λ j n. (c : ℕ) → slice_get bounds j ≡ Some c → IsNextSet T b s c n) row m
      (λ j n there c has. next_grows T a b s c n g (before.next s is j n there c has))
      (λ c has.
      let x : ℕ = get_or bounds k d in
      let place : slice_get bounds k ≡ Some x = slice_get-get_or bounds k d below in
      let same : Some x ≡ Some c = sym place ∙ ap (λ (j : ℕ). slice_get bounds j) (sym before.size) ∙ has in
      let e : x ≡ c = cc in
      subst (λ (y : ℕ). IsNextSet T b s y m) e (one s (at_grown start a at s before.grows is)));
}

row_grows : (T : List Node) (a b : List (List ℕ)) (s bounds row : List ℕ) → Grew a b → IsRow T a s bounds row → IsRow T b s bounds row
row_grows T a b s bounds row g r = record { size = r.size; next = λ k m at c has. next_grows T a b s c m g (r.next k m at c has) }

-- ---- all rows

pub record Collecting (T : List Node) (kernels : List (List ℕ)) (bounds begins : List ℕ) (sets table : List (List ℕ)) (next : ℕ) : Type 0 where
  pub first : EachAt (λ v n. (kernel : List ℕ) → slice_get kernels v ≡ Some kernel → IsFirst T sets kernel n) begins
  pub each : length begins ≡ length kernels
  pub rows : EachAt (λ n row. (s : List ℕ) → slice_get sets n ≡ Some s → IsRow T sets s bounds row) table
  pub count : length table ≡ next
  pub within : next ≤ length sets

pub collecting_more : (T : List Node) (kernels : List (List ℕ)) (bounds begins : List ℕ) (a b table : List (List ℕ)) (next : ℕ) (row : List ℕ) → next < length a → Grew a b
    → ((s : List ℕ) → slice_get a next ≡ Some s → IsRow T b s bounds row) → Collecting T kernels bounds begins a table next → Collecting T kernels bounds begins b (table ++ row ∷ []) (next + 1)
collecting_more T kernels bounds begins a b table next row below g one before =
    let longer = grown_longer a b g in
    record {
      first = λ v n at kernel has. first_grows T a b kernel n g (before.first v n at kernel has);
      each = before.each;
      rows = each_more (λ n r. (s : List ℕ) → slice_get b n ≡ Some s → IsRow T b s bounds r) table row
          (λ n r at s has.
          let w = slice_get_within table n r at in
          row_grows T a b s bounds r g (before.rows n r at s (at_shrunk a b n s g (omega (arith, before.count, before.within)) has)))
          (λ s has. one s (at_shrunk a b next s g below (ap (λ (j : ℕ). slice_get b j) (sym before.count) ∙ has)));
      count = omega (arith, length-append table (row ∷ []), before.count);
      within = omega arith;
    }

pub collected : (T : List Node) (kernels : List (List ℕ)) (bounds begins : List ℕ) (sets table : List (List ℕ)) (next : ℕ) → length sets ≤ next → Collecting T kernels bounds begins sets table next
    → IsSubset T kernels bounds begins sets table
collected T kernels bounds begins sets table next past h = record { first = h.first; each = h.each; rows = h.rows; all = omega (arith, h.count, h.within) }

pub map_push : (xs : List (Vec ℕ)) (y : Vec ℕ) → sets_of (xs ++ y ∷ []) ≡ sets_of xs ++ y.items ∷ []
map_push [] y = refl
map_push (x ∷ xs) y = ap (λ (l : List (List ℕ)). x.items ∷ l) (map_push xs y)

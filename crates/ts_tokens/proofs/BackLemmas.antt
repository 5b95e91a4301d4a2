-- A list that grows by the rows of its nodes, and so has all nodes to which the first one leads.
use Rattle.std.proofs.Common.{◌≡◌, ◌∙◌, sym, ap, subst, refl, ℕ, zero, suc, ◌+◌, ◌<◌, ◌≤◌, ◌⊎◌, inl, inr, ⊎_elim, Bool, true, false, if◌then◌else◌, ◌||◌, IsTrue, ◌↔◌, List, [], ◌∷◌, ◌++◌, length, get_or, take, slice_get, Some, nat_eq, append_assoc, arith}
use Rattle.std.specs.Global.{Vec}
use Rattle.std.specs.List.{Contains, list_any}
use Rattle.std.proofs.lemmas.Bool.{cases_lt}
use Rattle.std.proofs.lemmas.Bool.Decides.{nat_tests}
use Rattle.std.proofs.lemmas.List.{take_more, length-map}
use Rattle.std.proofs.lemmas.List.Elements.{Contains-append_left, Contains-append_cases, Contains-push, Contains-push_cases}
use Rattle.std.proofs.lemmas.Option.{slice_get_within}
use Rattle.indexmap.specs.IndexSet.{insert_key}
use Rattle.indexmap.proofs.CallerLemmas.{Contains-list_any}
use Rattle.ts_automata.specs.Sets.{Adds}
use Rattle.ts_base.proofs.PlaceLemmas.{in_prefix}
use Rattle.ts_tokens.specs.Paths.{GoesTo, Path, one, more, StaysInside, graph_of}
use Rattle.ts_tokens.proofs.PathLemmas.{path_on}
use Rattle.ts_tokens.proofs.MemberLemmas.{there, at_of}

-- ---- what a list takes in

same_nat : (x y : ℕ) → nat_eq x y ≡ true → x ≡ y
same_nat x y h = grind (arith, nat_tests)

itself : (x : ℕ) → nat_eq x x ≡ true
itself x = grind (arith, nat_tests)

-- one more node of a row
pub adds_more : (row : List ℕ) (k : ℕ) (d item : ℕ) (start old new : List ℕ) → k < length row → item ≡ get_or row k d → new ≡ insert_key nat_eq old item
    → Adds (Contains (take k row)) start old → Adds (Contains (take (k + 1) row)) start new
adds_more row k d item start old new lt at is before = subst (λ (xs : List ℕ). Adds (Contains (take (k + 1) row)) start xs) (sym is) (by (list_any (nat_eq item) old) refl)
  where
    longer : take (k + 1) row ≡ take k row ++ item ∷ []
    longer = take_more row k d lt ∙ ap (λ (x : ℕ). take k row ++ x ∷ []) (sym at)

    wider : (i : ℕ) → Contains (take k row) i → Contains (take (k + 1) row) i
    wider i w = subst (λ (xs : List ℕ). Contains xs i) (sym longer) (Contains-append_left (take k row) (item ∷ []) i w)

    has_item : Contains (take (k + 1) row) item
    has_item = subst (λ (xs : List ℕ). Contains xs item) (sym longer) (Contains-push (take k row) item)

    either : (i : ℕ) → Contains (take (k + 1) row) i → Contains (take k row) i ⊎ (item ≡ i)
    either i w = Contains-push_cases (take k row) item i (subst (λ (xs : List ℕ). Contains xs i) longer w)

    by : (b : Bool) → list_any (nat_eq item) old ≡ b → Adds (Contains (take (k + 1) row)) start (if b then old else old ++ item ∷ [])
    by true e = record {
      more = before.more;
      is = before.is;
      only = λ i w. wider i (before.only i w);
      added = λ i w. ⊎_elim (λ v. before.added i v) (λ same. subst (λ (x : ℕ). Contains old x) same (Contains-list_any nat_eq same_nat old item e)) (either i w);
    }
    by false e = record {
      more = before.more ++ item ∷ [];
      is = ap (λ (xs : List ℕ). xs ++ item ∷ []) before.is ∙ append_assoc start before.more (item ∷ []);
      only = λ i w. ⊎_elim (λ v. wider i (before.only i v)) (λ same. subst (λ (x : ℕ). Contains (take (k + 1) row) x) same has_item) (Contains-push_cases before.more item i w);
      added = λ i w. ⊎_elim (λ v. Contains-append_left old (item ∷ []) i (before.added i v)) (λ same. subst (λ (x : ℕ). Contains (old ++ item ∷ []) x) same (Contains-push old item)) (either i w);
    }

-- ---- the search

-- the nodes that were found are led to, and the rows of those before the next one were taken in
pub record Reaching (g : List (List ℕ)) (from : ℕ) (found : List ℕ) (next : ℕ) : Type 0 where
  pub sound : (i : ℕ) → Contains found i → Path g from i
  pub base : (i : ℕ) → GoesTo g from i → Contains found i
  pub done : (k i j : ℕ) → k < next → slice_get found k ≡ Some i → GoesTo g i j → Contains found j

same_row : (g : List (List ℕ)) (node : ℕ) (row : List ℕ) → slice_get g node ≡ Some row → (i : ℕ) → Contains row i ↔ GoesTo g node i
same_row g node row at i = (
  λ w. record { row = row; at = at; member = w },
  λ s. let e : Some s.row ≡ Some row = sym s.at ∙ at in
      let is : s.row ≡ row = cc in
      subst (λ (xs : List ℕ). Contains xs i) is s.member,
)

pub reaching_begins : (g : List (List ℕ)) (from : ℕ) (row found : List ℕ) → slice_get g from ≡ Some row → Adds (Contains row) [] found → Reaching g from found 0
reaching_begins g from row found at adds = record {
  sound = λ i w. one from i ((same_row g from row at i).0 (adds.only i (subst (λ (xs : List ℕ). Contains xs i) adds.is w)));
  base = λ i s. adds.added i ((same_row g from row at i).1 s);
  done = λ k i j lt here s. absurd (omega arith);
}

pub reaching_more : (g : List (List ℕ)) (from : ℕ) (found new row : List ℕ) (next node : ℕ) → next < length found → slice_get found next ≡ Some node → slice_get g node ≡ Some row
    → Adds (Contains row) found new → Reaching g from found next → Reaching g from new (next + 1)
reaching_more g from found new row next node below here at adds before = record {
  sound = λ i w. ⊎_elim
      (λ v. before.sound i v)
      (λ v. path_on g from node i (before.sound node (there found next node here)) ((same_row g node row at i).0 (adds.only i v)))
      (Contains-append_cases found adds.more i (subst (λ (xs : List ℕ). Contains xs i) adds.is w));
  base = λ i s. kept i (before.base i s);
  done = λ k i j lt is s. ⊎_elim
      (λ w. kept j (before.done k i j w (old k i (omega arith) is) s))
      (λ ge. adds.added j ((same_row g node row at j).1 (subst (λ (x : ℕ). GoesTo g x j) (same k i (omega arith) is) s)))
      (cases_lt k next);
}
  where
    kept : (i : ℕ) → Contains found i → Contains new i
    kept i w = subst (λ (xs : List ℕ). Contains xs i) (sym adds.is) (Contains-append_left found adds.more i w)

    old : (k i : ℕ) → k < length found → slice_get new k ≡ Some i → slice_get found k ≡ Some i
    old k i lt is = sym (in_prefix found adds.more k lt) ∙ ap (λ (xs : List ℕ). slice_get xs k) (sym adds.is) ∙ is

    same : (k i : ℕ) → k ≡ next → slice_get new k ≡ Some i → i ≡ node
    same k i e is = let f : Some i ≡ Some node = sym (old k i (omega arith) is) ∙ ap (slice_get found) e ∙ here in cc

pub node_there : (g : List (List ℕ)) (from : ℕ) (found : List ℕ) (next node : ℕ) → StaysInside g → slice_get found next ≡ Some node → Reaching g from found next → node < length g
node_there g from found next node closed here before = within from node (before.sound node (there found next node here))
  where
    within : (a b : ℕ) → Path g a b → b < length g
    within _ _ (one a b s) = closed a b s
    within _ _ (more a m b s rest) = within m b rest

-- all nodes to which the first one leads were found
pub reached : (g : List (List ℕ)) (from : ℕ) (found : List ℕ) (next : ℕ) → length found ≤ next → Reaching g from found next → (i : ℕ) → Contains found i ↔ Path g from i
reached g from found next past r i = (λ w. r.sound i w, λ p. along from i p (λ j s. r.base j s))
  where
    along : (a b : ℕ) → Path g a b → ((j : ℕ) → GoesTo g a j → Contains found j) → Contains found b
    along _ _ (one a b s) have = have b s
    along _ _ (more a m b s rest) have = let w = have m s in along m b rest (λ j t. r.done w.0 m j (let lt = w.1 in omega arith) (at_of found m w) t)

any_at : (xs : List ℕ) (x k : ℕ) → slice_get xs k ≡ Some x → list_any (nat_eq x) xs ≡ true
any_at [] x k e = absurd (let w = slice_get_within {A = ℕ} [] k x e in omega arith)
any_at (y ∷ xs) x zero e = let f : Some y ≡ Some x = e in let is : x ≡ y = cc in ap (λ (b : Bool). b || list_any (nat_eq x) xs) (ap (nat_eq x) (sym is) ∙ itself x)
any_at (y ∷ xs) x (suc k) e = ap (λ (b : Bool). nat_eq x y || b) (any_at xs x k e) ∙ or_true (nat_eq x y)
  where
    or_true : (b : Bool) → b || true ≡ true
    or_true true = refl
    or_true false = refl

-- a look-up tells the members
pub look_up : (found : List ℕ) (node : ℕ) (b : Bool) → b ≡ list_any (nat_eq node) found → IsTrue b ↔ Contains found node
look_up found node b is = (
  λ t. Contains-list_any nat_eq same_nat found node (sym is ∙ t),
  λ w. is ∙ any_at found node w.0 (at_of found node w),
)

pub rows_length : (rows : List (Vec ℕ)) → length (graph_of rows) ≡ length rows
rows_length rows = length-map rows (λ (row : Vec ℕ). row.items)

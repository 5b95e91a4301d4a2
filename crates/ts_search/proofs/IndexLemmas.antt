-- Patterns by their roots.
use Rattle.std.proofs.Common.{◌≡◌, ◌∙◌, sym, ap, refl, subst, ℕ, ◌+◌, ◌<◌, ◌≤◌, ◌⊎◌, inl, inr, ⊎_elim, List, [], ◌∷◌, ◌++◌, length, set, take, get_or, Some, slice_get, ◌↔◌, IsPermutation, arith}
use Rattle.std.specs.Global.{Vec}
use Rattle.std.specs.List.{Contains}
use Rattle.std.proofs.lemmas.Bool.{cases_eq}
use Rattle.std.proofs.lemmas.List.{take_all, take_more}
use Rattle.std.proofs.lemmas.List.Elements.{Contains-append_left, Contains-push, Contains-push_cases}
use Rattle.std.proofs.lemmas.List.Sorted.{Contains-permutation, IsPermutation-sym}
use Rattle.std.proofs.lemmas.Option.{slice_get_within}
use Rattle.ts_base.proofs.PlaceLemmas.{set_here, set_there}
use Rattle.ts_query_syntax.specs.declared.read_query.Pattern.{Pattern}
use Rattle.ts_search.specs.declared.group.Group.{Group}
use Rattle.ts_search.specs.declared.group.Root.{Root}
use Rattle.ts_search.specs.declared.group.Rooted.{Rooted}
use Rattle.ts_search.specs.Index.{AreRooted, HasRoot, IsIn, IsIndex, IsRoot, Puts}
use Rattle.ts_search.proofs.AddLemmas.{in_one, one_in}
use Rattle.ts_search.proofs.PlaceLemmas.{at_of, cases_lt_or_eq, none_in_nil, same_at, there}

-- what is known of the roots of patterns
module _ (patterns : List Pattern) where
  pub root_at : (root : Root) (k : ℕ) (pattern : Pattern) → HasRoot patterns root k → slice_get patterns k ≡ Some pattern → IsRoot root pattern
  root_at root k pattern h at = subst (IsRoot root) (same_at patterns k h.0 pattern h.1 at) h.2

  pub rooted_none : (all : List Rooted) → all ≡ [] → AreRooted patterns 0 all
  rooted_none all e = record {
    each = λ one h. absurd (none_in_nil one (subst (λ (l : List Rooted). Contains l one) e h));
    whole = λ k lt. absurd (omega (arith, lt));
  }

  pub rooted_more : (n : ℕ) (pattern : Pattern) (root : Root) (old new : List Rooted) → slice_get patterns n ≡ Some pattern → IsRoot root pattern → new ≡ old ++ record { root = root; number = n } ∷ [] → AreRooted patterns n old
      → AreRooted patterns (n + 1) new
  rooted_more n pattern root old new at is e before = subst (AreRooted patterns (n + 1)) (sym e) (record {
    each = λ any h. ⊎_elim (λ w. before.each any w) (λ same. subst (λ (r : Rooted). HasRoot patterns r.root r.number) same (pattern, at, is)) (Contains-push_cases old one any h);
    whole = λ k lt. ⊎_elim (λ less. let w = before.whole k less in (w.0, Contains-append_left old (one ∷ []) w.0 w.1, w.2)) (λ same. (one, Contains-push old one, sym same)) (cases_lt_or_eq k n lt);
  })
    where
      one : Rooted
      one = record { root = root; number = n }

  pub rooted_all : (n k : ℕ) (all : List Rooted) → n ≤ k → AreRooted patterns k all → AreRooted patterns n all
  rooted_all n k all past are = record { each = are.each; whole = λ j lt. are.whole j (omega (arith, lt, past)) }

  pub rooted_moved : (n : ℕ) (all sorted : List Rooted) → IsPermutation all sorted → AreRooted patterns n all → AreRooted patterns n sorted
  rooted_moved n all sorted moved before = record {
    each = λ one h. before.each one (Contains-permutation sorted all one (IsPermutation-sym all sorted moved) h);
    whole = λ k lt. let w = before.whole k lt in (w.0, Contains-permutation all sorted w.0 moved w.1, w.2);
  }

-- one more pattern in a group
made : (any one : Rooted) → any.root ≡ one.root → any.number ≡ one.number → any ≡ one
made any one r n = λ i. record { root = r i; number = n i }

module _ (old : List Group) (one : Rooted) where
  pub puts_new : (new : List Group) (numbers : Vec ℕ) → numbers.items ≡ one.number ∷ [] → new ≡ old ++ record { root = one.root; numbers = numbers } ∷ [] → Puts one old new
  puts_new new numbers is e = subst (Puts one old) (sym e) (λ any. (to any, from any))
    where
      g : Group
      g = record { root = one.root; numbers = numbers }

      to : (any : Rooted) → IsIn (old ++ g ∷ []) any → IsIn old any ⊎ (any ≡ one)
      to any (h, in_all, root, number) = ⊎_elim (λ w. inl (h, w, root, number)) (λ same. inr (made any one
          (sym root ∙ ap (λ (x : Group). x.root) (sym same))
          (one_in one.number any.number (subst (λ (l : List ℕ). Contains l any.number) (ap (λ (x : Group). x.numbers.items) (sym same) ∙ is) number)))) (Contains-push_cases old g h in_all)

      from : (any : Rooted) → IsIn old any ⊎ (any ≡ one) → IsIn (old ++ g ∷ []) any
      from any (inl (h, in_old, root, number)) = (h, Contains-append_left old (g ∷ []) h in_old, root, number)
      from any (inr same) = (
        g,
        Contains-push old g,
        ap (λ (r : Rooted). r.root) (sym same),
        subst (λ (l : List ℕ). Contains l any.number) (sym is) (in_one one.number any.number (ap (λ (r : Rooted). r.number) same)),
      )

  pub puts_at : (at : ℕ) (g : Group) (longer : Vec ℕ) → slice_get old at ≡ Some g → ((f : Group) × (slice_get old at ≡ Some f) × (f.root ≡ one.root)) → longer.items ≡ g.numbers.items ++ one.number ∷ [] → Puts one old (set old at (record { root = g.root; numbers = longer }))
  puts_at at g longer is known more any = (to, from)
    where
      root : g.root ≡ one.root
      root = subst (λ (f : Group). f.root ≡ one.root) (same_at old at known.0 g known.1 is) known.2

      h : Group
      h = record { root = g.root; numbers = longer }

      new : List Group
      new = set old at h

      here : slice_get new at ≡ Some h
      here = set_here old at h (slice_get_within old at g is)

      longer_has : (k : ℕ) → Contains (g.numbers.items ++ one.number ∷ []) k → Contains longer.items k
      longer_has k = subst (λ (l : List ℕ). Contains l k) (sym more)

      -- of the group that grew
      grown : (f : Group) → f ≡ h → f.root ≡ any.root → Contains f.numbers.items any.number → IsIn old any ⊎ (any ≡ one)
      grown f e of number =
          let r : g.root ≡ any.root = ap (λ (x : Group). x.root) (sym e) ∙ of in
          ⊎_elim (λ w. inl (g, there old at g is, r, w)) (λ same. inr (made any one (sym r ∙ root) (sym same)))
          (Contains-push_cases g.numbers.items one.number any.number (subst (λ (l : List ℕ). Contains l any.number) (ap (λ (x : Group). x.numbers.items) e ∙ more) number))

      grows : (f : Group) → f ≡ g → f.root ≡ any.root → Contains f.numbers.items any.number → IsIn new any
      grows f e of number = (
        h,
        there new at h here,
        ap (λ (x : Group). x.root) (sym e) ∙ of,
        longer_has any.number (Contains-append_left g.numbers.items (one.number ∷ []) any.number (subst (λ (x : Group). Contains x.numbers.items any.number) e number)),
      )

      to : IsIn new any → IsIn old any ⊎ (any ≡ one)
      to (f, in_new, of, number) =
          let found : slice_get new in_new.0 ≡ Some f = at_of new f in_new in
          ⊎_elim (λ e. grown f (same_at new at f h (subst (λ (j : ℕ). slice_get new j ≡ Some f) e found) here) of number)
          (λ other. inl (f, there old in_new.0 f (sym (set_there old at in_new.0 h other) ∙ found), of, number)) (cases_eq in_new.0 at)

      from : IsIn old any ⊎ (any ≡ one) → IsIn new any
      from (inl (f, in_old, of, number)) =
          let found : slice_get old in_old.0 ≡ Some f = at_of old f in_old in
          ⊎_elim (λ e. grows f (same_at old at f g (subst (λ (j : ℕ). slice_get old j ≡ Some f) e found) is) of number)
          (λ other. (f, there new in_old.0 f (set_there old at in_old.0 h other ∙ found), of, number)) (cases_eq in_old.0 at)
      from (inr same) = (
        h,
        there new at h here,
        root ∙ ap (λ (r : Rooted). r.root) (sym same),
        longer_has any.number (subst (Contains (g.numbers.items ++ one.number ∷ [])) (ap (λ (r : Rooted). r.number) (sym same)) (Contains-push g.numbers.items one.number)),
      )

-- the groups have what a loop has gone over
abbrev pub AreIn : List Group → List Rooted → Type 0
AreIn groups all = (one : Rooted) → IsIn groups one ↔ Contains all one

pub in_none : (groups : List Group) → groups ≡ [] → AreIn groups []
in_none groups e one = ((λ h. absurd (none_in_nil h.0 (subst (λ (l : List Group). Contains l h.0) e h.1))), (λ h. absurd (none_in_nil one h)))

pub in_more : (all : List Rooted) (n : ℕ) (d : Rooted) (old new : List Group) → n < length all → AreIn old (take n all) → Puts (get_or all n d) old new → AreIn new (take (n + 1) all)
in_more all n d old new below before puts = subst (AreIn new) (sym (take_more all n d below)) (λ any. (
  (λ h. ⊎_elim (λ w. Contains-append_left (take n all) (get_or all n d ∷ []) any ((before any).0 w)) (λ e. subst (Contains (take n all ++ get_or all n d ∷ [])) (sym e) (Contains-push (take n all) (get_or all n d))) ((puts any).0 h)),
  (λ h. (puts any).1 (⊎_elim (λ w. inl ((before any).1 w)) (λ e. inr (sym e)) (Contains-push_cases (take n all) (get_or all n d) any h))),
))

pub in_all : (patterns : List Pattern) (all : List Rooted) (n : ℕ) (groups : List Group) → length all ≤ n → AreRooted patterns (length patterns) all → AreIn groups (take n all) → IsIndex patterns groups
in_all patterns all n groups past are before = record {
  each = λ g there_g k in_g. are.each (record { root = g.root; number = k }) ((now (record { root = g.root; number = k })).0 (g, there_g, refl, in_g));
  whole = λ k lt.
      let w = are.whole k lt in
      let h = (now w.0).1 w.1 in
      (h.0, h.1, subst (Contains h.0.numbers.items) w.2 h.3);
}
  where
    now : AreIn groups all
    now = subst (AreIn groups) (take_all n all past) before

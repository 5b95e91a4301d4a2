-- Tokens by first sight, and those that stand more than once.
use Rattle.std.proofs.Common.{◌≡◌, ◌∙◌, sym, ap, subst, refl, ℕ, zero, suc, ◌<◌, ◌⊎◌, inl, inr, ⊎_elim, Bool, true, false, List, [], ◌∷◌, ◌++◌, length, slice_get, append_assoc, Some, arith, if◌then◌else◌, Bor, not}
use Rattle.std.specs.List.{Contains, list_any}
use Rattle.indexmap.specs.IndexSet.{insert_key}
use Rattle.indexmap.proofs.CallerLemmas.{Contains-list_any, Contains-insert_key}
use Rattle.std.proofs.lemmas.List.Elements.{Contains-append_left, Contains-append_right, Contains-append_cases}
use Rattle.std.proofs.lemmas.Option.{slice_get_within}
use Rattle.ts_base.proofs.PlaceLemmas.{in_prefix, at_end}
use Rattle.ts_core.specs.declared.rule.Rule.{Rule}
use Rattle.ts_rules.specs.FirstSights.{Not, Once}
use Rattle.ts_numbering.specs.Keys.{Twice, AreSeenTokens, trees}
use Rattle.ts_numbering.specs.Places.{same_tree}
use Rattle.ts_numbering.proofs.FirstSightLemmas.{there, at_of, only_one, any_at, sights_insert, any_map, insert_map}
use Rattle.ts_numbering.proofs.SameLemmas.{tree_same, tree_itself}

module _ {X : Type 0} where
  once_at : (before after : List X) (x : X) (k : ℕ) → slice_get (before ++ x ∷ after) k ≡ Some x → Not (Contains before x) → Not (Contains after x) → k ≡ length before
  once_at [] after x zero e not_before not_after = refl
  once_at [] after x (suc k) e not_before not_after = absurd (not_after (there after k x e))
  once_at (y ∷ before) after x zero e not_before not_after = let f : Some y ≡ Some x = e in absurd (not_before (there (y ∷ before) 0 x f))
  once_at (y ∷ before) after x (suc k) e not_before not_after =
      ap (λ (n : ℕ). suc n) (once_at before after x k e (λ w. not_before (Contains-append_right (y ∷ []) before x w)) not_after)

  pub twice_not_once : (xs : List X) (x : X) → Twice xs x → Not (Once xs x)
  twice_not_once xs x w o =
      let at : (k : ℕ) → slice_get xs k ≡ Some x → k ≡ length o.before =
      λ k e. once_at o.before o.after x k (subst (λ (ys : List X). slice_get ys k ≡ Some x) o.is e) o.not_before o.not_after in
      let low : w.0 ≡ length o.before = at w.0 w.3 in
      let high : w.1 ≡ length o.before = at w.1 w.4 in
      let lt : w.0 < w.1 = w.2 in
      omega arith

  twice_longer : (xs : List X) (x y : X) → Twice xs x → Twice (xs ++ y ∷ []) x
  twice_longer xs x y w = (
    w.0,
    w.1,
    w.2,
    in_prefix xs (y ∷ []) w.0 (slice_get_within xs w.0 x w.3) ∙ w.3,
    in_prefix xs (y ∷ []) w.1 (slice_get_within xs w.1 x w.4) ∙ w.4,
  )

  twice_new : (xs : List X) (x : X) → Contains xs x → Twice (xs ++ x ∷ []) x
  twice_new xs x w = (w.0, length xs, w.1, in_prefix xs (x ∷ []) w.0 w.1 ∙ at_of xs x w, at_end xs x)

  once_longer : (xs : List X) (x y : X) → Not (x ≡ y) → Once xs x → Once (xs ++ y ∷ []) x
  once_longer xs x y other o = record {
    before = o.before;
    after = o.after ++ y ∷ [];
    is = ap (λ (zs : List X). zs ++ y ∷ []) o.is ∙ append_assoc o.before (x ∷ o.after) (y ∷ []);
    not_before = o.not_before;
    not_after = λ w. ⊎_elim (λ v. o.not_after v) (λ v. other (only_one y x v)) (Contains-append_cases o.after (y ∷ []) x w);
  }

  nothing_in : (x : X) → Not (Contains [] x)
  nothing_in x w = let lt : w.0 < 0 = w.1 in omega arith

  once_new : (xs : List X) (x : X) → Not (Contains xs x) → Once (xs ++ x ∷ []) x
  once_new xs x unseen = record { before = xs; after = []; is = refl; not_before = unseen; not_after = nothing_in x }

in_list : (xs : List Rule) (x : Rule) → Contains xs x → list_any (same_tree x) xs ≡ true
in_list xs x w = any_at same_tree tree_same tree_itself xs x w.0 (at_of xs x w)

-- a token that was not seen before
pub note_new : (seen tokens repeats : List Rule) (y : Rule) → list_any (same_tree y) tokens ≡ false → AreSeenTokens seen tokens repeats
    → AreSeenTokens (seen ++ y ∷ []) (insert_key same_tree tokens y) repeats
note_new seen tokens repeats y new before = record {
  first = sights_insert same_tree tree_same tree_itself seen tokens y before.first;
  again = λ t w. twice_longer seen t y (before.again t w);
  once = λ t w u. ⊎_elim
      (λ v. once_longer seen t y (λ e. unseen (subst (λ (z : Rule). Contains seen z) e v)) (before.once t v u))
      (λ v. subst (λ (z : Rule). Once (seen ++ y ∷ []) z) (sym (only_one y t v)) (once_new seen y unseen))
      (Contains-append_cases seen (y ∷ []) t w);
}
  where
    unseen : Not (Contains seen y)
    unseen w = let e : true ≡ false = sym (in_list tokens y (before.first.every y w)) ∙ new in cc

insert_cases : (xs : List Rule) (y t : Rule) → Contains (insert_key same_tree xs y) t → Contains xs t ⊎ (t ≡ y)
insert_cases xs y t w = by (list_any (same_tree y) xs) refl
  where
    by : (b : Bool) → list_any (same_tree y) xs ≡ b → Contains xs t ⊎ (t ≡ y)
    by true e = inl (subst (λ (b : Bool). Contains (if b then xs else xs ++ y ∷ []) t) e w)
    by false e = ⊎_elim (λ v. inl v) (λ v. inr (only_one y t v)) (Contains-append_cases xs (y ∷ []) t (subst (λ (b : Bool). Contains (if b then xs else xs ++ y ∷ []) t) e w))

insert_keeps : (xs : List Rule) (y t : Rule) → Contains xs t → Contains (insert_key same_tree xs y) t
insert_keeps xs y t w = by (list_any (same_tree y) xs) refl
  where
    by : (b : Bool) → list_any (same_tree y) xs ≡ b → Contains (insert_key same_tree xs y) t
    by true e = subst (λ (b : Bool). Contains (if b then xs else xs ++ y ∷ []) t) (sym e) w
    by false e = subst (λ (b : Bool). Contains (if b then xs else xs ++ y ∷ []) t) (sym e) (Contains-append_left xs (y ∷ []) t w)

-- a token that was seen before
pub note_again : (seen tokens repeats : List Rule) (y : Rule) → list_any (same_tree y) tokens ≡ true → AreSeenTokens seen tokens repeats
    → AreSeenTokens (seen ++ y ∷ []) (insert_key same_tree tokens y) (insert_key same_tree repeats y)
note_again seen tokens repeats y old before = record {
  first = sights_insert same_tree tree_same tree_itself seen tokens y before.first;
  again = λ t w. ⊎_elim
      (λ v. twice_longer seen t y (before.again t v))
      (λ e. subst (λ (z : Rule). Twice (seen ++ y ∷ []) z) (sym e) (twice_new seen y (before.first.only y (Contains-list_any same_tree tree_same tokens y old))))
      (insert_cases repeats y t w);
  once = λ t w u.
      let other : Not (t ≡ y) = λ e. u (subst (λ (z : Rule). Contains (insert_key same_tree repeats y) z) (sym e) (Contains-insert_key same_tree tree_same repeats y)) in
      ⊎_elim
      (λ v. once_longer seen t y other (before.once t v (λ x. u (insert_keeps repeats y t x))))
      (λ v. absurd (other (only_one y t v)))
      (Contains-append_cases seen (y ∷ []) t w);
}

-- ---- as the code has them

abbrev alike : Bor Rule → Bor Rule → Bool
alike a b = same_tree a.now b.now

keys_are : (keys new : List (Bor Rule)) (y : Bor Rule) → new ≡ insert_key alike keys y → trees new ≡ insert_key same_tree (trees keys) y.now
keys_are keys new y is = ap trees is ∙ insert_map (λ (t : Bor Rule). t.now) same_tree keys y

told : (keys : List (Bor Rule)) (y : Bor Rule) (added b : Bool) → added ≡ not (list_any (alike y) keys) → added ≡ not b → list_any (same_tree y.now) (trees keys) ≡ b
told keys y added b is e = sym (any_map (λ (t : Bor Rule). t.now) same_tree y.now keys) ∙ same (list_any (alike y) keys) b (sym is ∙ e)
  where
    same : (a c : Bool) → not a ≡ not c → a ≡ c
    same true true h = refl
    same false false h = refl
    same true false h = let f : false ≡ true = h in cc
    same false true h = let f : true ≡ false = h in cc

pub lent_new : (seen : List Rule) (tokens new repeats : List (Bor Rule)) (y : Bor Rule) (added : Bool) → added ≡ not (list_any (alike y) tokens) → added ≡ true
    → new ≡ insert_key alike tokens y
    → AreSeenTokens seen (trees tokens) (trees repeats) → AreSeenTokens (seen ++ y.now ∷ []) (trees new) (trees repeats)
lent_new seen tokens new repeats y added is e keys before =
    subst (λ (ts : List Rule). AreSeenTokens (seen ++ y.now ∷ []) ts (trees repeats)) (sym (keys_are tokens new y keys))
    (note_new seen (trees tokens) (trees repeats) y.now (told tokens y added false is e) before)

pub lent_again : (seen : List Rule) (tokens new repeats more : List (Bor Rule)) (y : Bor Rule) (added : Bool) → added ≡ not (list_any (alike y) tokens) → added ≡ false
    → new ≡ insert_key alike tokens y → more ≡ insert_key alike repeats y
    → AreSeenTokens seen (trees tokens) (trees repeats) → AreSeenTokens (seen ++ y.now ∷ []) (trees new) (trees more)
lent_again seen tokens new repeats more y added is e keys more_keys before =
    subst (λ (ts : List Rule). AreSeenTokens (seen ++ y.now ∷ []) ts (trees more)) (sym (keys_are tokens new y keys))
    (subst (λ (rs : List Rule). AreSeenTokens (seen ++ y.now ∷ []) (insert_key same_tree (trees tokens) y.now) rs) (sym (keys_are repeats more y more_keys))
    (note_again seen (trees tokens) (trees repeats) y.now (told tokens y added true is e) before))

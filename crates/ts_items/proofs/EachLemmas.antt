-- Lists and sets that gain what each element of a list gives.
use Rattle.std.proofs.Common.{◌≡◌, ◌∙◌, sym, refl, subst, ℕ, ◌+◌, ◌<◌, ◌⊎◌, inl, inr, ⊎_elim, List, [], ◌∷◌, ◌++◌, length, take, drop, get_or, set, slice_get, Some, arith, ◌↔◌, length-append}
use Rattle.std.specs.Global.{Vec}
use Rattle.std.specs.List.{Contains}
use Rattle.std.proofs.lemmas.List.{take_more, length-set}
use Rattle.std.proofs.lemmas.List.Elements.{Contains-append_left, Contains-push, Contains-push_cases}
use Rattle.std.proofs.lemmas.Bool.{cases_eq}
use Rattle.ts_items.specs.Rows.{RowHas, Puts, FromOne}
use Rattle.ts_items.proofs.ListLemmas.{one_at, get_set_same, get_set_other, written, none_in_nil, none_at_nil, snoc_at}

module _ {A X : Type 0} (P : A → ℕ → X → Type 0) where
  none_taken : (xs : List A) (y : A) → Contains (take 0 xs) y → ⊥
  none_taken xs y h = let lt = h.1 in omega arith

  pub each_none : (xs : List A) (y : ℕ) (x : X) → FromOne P (take 0 xs) y x → ⊥
  each_none xs y x e = none_taken xs e.by e.there

  -- what the first elements give, and one more
  pub each_old : (xs : List A) (k : ℕ) (d : A) → k < length xs → (y : ℕ) (x : X) → FromOne P (take k xs) y x → FromOne P (take (k + 1) xs) y x
  each_old xs k d below y x e = rw (take_more xs k d below) (record { by = e.by; there = Contains-append_left (take k xs) (get_or xs k d ∷ []) e.by e.there; gives = e.gives })

  pub each_new : (xs : List A) (k : ℕ) (d : A) → k < length xs → (y : ℕ) (x : X) → P (get_or xs k d) y x → FromOne P (take (k + 1) xs) y x
  each_new xs k d below y x p = rw (take_more xs k d below) (record { by = get_or xs k d; there = Contains-push (take k xs) (get_or xs k d); gives = p })

  pub each_cases : (xs : List A) (k : ℕ) (d : A) → k < length xs → (y : ℕ) (x : X) → FromOne P (take (k + 1) xs) y x → FromOne P (take k xs) y x ⊎ P (get_or xs k d) y x
  each_cases xs k d below y x e =
      let there' : Contains (take k xs ++ get_or xs k d ∷ []) e.by = subst (λ (l : List A). Contains l e.by) (take_more xs k d below) e.there in
      ⊎_elim (λ w. inl (record { by = e.by; there = w; gives = e.gives })) (λ w. inr (subst (λ (a : A). P a y x) (sym w) e.gives)) (Contains-push_cases (take k xs) (get_or xs k d) e.by there')

module _ {X : Type 0} where
  pub puts_none : (P : ℕ → X → Type 0) (rows : List (Vec X)) → ((y : ℕ) (x : X) → P y x → ⊥) → Puts P rows rows
  puts_none P rows none = record { count = refl; members = λ y x. ((λ h. inl h), (λ h. ⊎_elim (λ a. a) (λ b. absurd (none y x b)) h)) }

  pub puts_both : (P Q R : ℕ → X → Type 0) (a b c : List (Vec X)) → Puts P a b → Puts Q b c → ((y : ℕ) (x : X) → P y x → R y x) → ((y : ℕ) (x : X) → Q y x → R y x) → ((y : ℕ) (x : X) → R y x → P y x ⊎ Q y x)
      → Puts R a c
  puts_both P Q R a b c p q first second either = record {
    count = q.count ∙ p.count;
    members = λ y x. (
      (λ h. ⊎_elim (λ v. ⊎_elim (λ z. inl z) (λ z. inr (first y x z)) ((p.members y x).0 v)) (λ v. inr (second y x v)) ((q.members y x).0 h)),
      (λ h. (q.members y x).1 (⊎_elim (λ v. inl ((p.members y x).1 (inl v))) (λ v. ⊎_elim (λ z. inl ((p.members y x).1 (inr z))) (λ z. inr z) (either y x v)) h)),
    );
  }

  pub puts_same : (P Q : ℕ → X → Type 0) (a b : List (Vec X)) → Puts P a b → ((y : ℕ) (x : X) → P y x → Q y x) → ((y : ℕ) (x : X) → Q y x → P y x) → Puts Q a b
  puts_same P Q a b p to from = record {
    count = p.count;
    members = λ y x. ((λ h. ⊎_elim (λ v. inl v) (λ v. inr (to y x v)) ((p.members y x).0 h)), (λ h. (p.members y x).1 (⊎_elim (λ v. inl v) (λ v. inr (from y x v)) h)));
  }

  -- one item at the end of one list
  pub puts_at : (old : List (Vec X)) (at : ℕ) (row longer : Vec X) (item : X) → at < length old → slice_get old at ≡ Some row → longer.items ≡ row.items ++ item ∷ [] → Puts (λ y x. (y ≡ at) × (x ≡ item)) old (set old at longer)
  puts_at old at row longer item inside is more = record {
    count = length-set old at longer;
    members = λ y x. ⊎_elim (λ e. here y x e) (λ f. elsewhere y x f) (cases_eq y at);
  }
    where
      here : (y : ℕ) (x : X) → y ≡ at → RowHas (set old at longer) y x ↔ (RowHas old y x ⊎ ((y ≡ at) × (x ≡ item)))
      here y x e =
          let now : slice_get (set old at longer) y ≡ Some longer = subst (λ (k : ℕ). slice_get (set old at longer) k ≡ Some longer) (sym e) (get_set_same old at longer inside) in
          let before : slice_get old y ≡ Some row = subst (λ (k : ℕ). slice_get old k ≡ Some row) (sym e) is in (
            (λ h.
                let q : Contains longer.items x = subst (λ (v : Vec X). Contains v.items x) (one_at (set old at longer) y h.row longer h.at now) h.has in
                ⊎_elim (λ a. inl (record { row = row; at = before; has = a })) (λ b. inr (e, sym b)) (Contains-push_cases row.items item x (subst (λ (l : List X). Contains l x) more q))),
            (λ h. record {
              row = longer;
              at = now;
              has = subst (λ (l : List X). Contains l x) (sym more) (⊎_elim
                  (λ a. Contains-append_left row.items (item ∷ []) x (subst (λ (v : Vec X). Contains v.items x) (one_at old y a.row row a.at before) a.has))
                  (λ b. subst (Contains (row.items ++ item ∷ [])) (sym b.1) (Contains-push row.items item)) h);
            }),
          )

      elsewhere : (y : ℕ) (x : X) → (y ≡ at → ⊥) → RowHas (set old at longer) y x ↔ (RowHas old y x ⊎ ((y ≡ at) × (x ≡ item)))
      elsewhere y x f = (
        (λ h. inl (record { row = h.row; at = sym (get_set_other old at y longer f) ∙ h.at; has = h.has })),
        (λ h. ⊎_elim (λ a. record { row = a.row; at = get_set_other old at y longer f ∙ a.at; has = a.has }) (λ b. absurd (f b.0)) h),
      )

module _ {A X : Type 0} (P : A → ℕ → X → Type 0) where
  pub puts_begin : (xs : List A) (rows : List (Vec X)) → Puts (FromOne P (take 0 xs)) rows rows
  puts_begin xs rows = puts_none (FromOne P (take 0 xs)) rows (λ y x. each_none P xs y x)

  pub puts_more : (xs : List A) (k : ℕ) (d : A) (a b c : List (Vec X)) → k < length xs → Puts (FromOne P (take k xs)) a b → Puts (P (get_or xs k d)) b c → Puts (FromOne P (take (k + 1) xs)) a c
  puts_more xs k d a b c below before one =
      puts_both (FromOne P (take k xs)) (P (get_or xs k d)) (FromOne P (take (k + 1) xs)) a b c before one (λ y x. each_old P xs k d below y x) (λ y x. each_new P xs k d below y x) (λ y x. each_cases P xs k d below y x)

  pub puts_all : (xs : List A) (k : ℕ) (a b : List (Vec X)) → take k xs ≡ xs → Puts (FromOne P (take k xs)) a b → Puts (FromOne P xs) a b
  puts_all xs k a b e h = subst (λ (l : List A). Puts (FromOne P l) a b) e h

module _ {A X : Type 0} (P : A → ℕ → X → Type 0) where
  -- the same through a slice of a vector of lists
  pub puts_slice : (xs : List A) (k len : ℕ) (x : A) (a items now new : List (Vec X)) → k < length xs → x ≡ get_or xs k x → now ≡ items → length now ≡ len → Puts (FromOne P (take k xs)) a items → Puts (P x) now new
      → Puts (FromOne P (take (k + 1) xs)) a (take len (new ++ drop (length new) items))
  puts_slice xs k len x a items now new below is same size before one =
      subst (Puts (FromOne P (take (k + 1) xs)) a) (sym (written items now new len same size one.count))
      (puts_more P xs k x a items new below before (subst (λ (l : List (Vec X)). Puts (P (get_or xs k x)) l new) same (subst (λ (z : A). Puts (P z) now new) is one)))

-- ---- lists that are made empty

pub record Empties {X : Type 0} (rows : List (Vec X)) (count : ℕ) : Type 0 where
  pub size : length rows ≡ count
  pub empty : (y : ℕ) (x : X) → RowHas rows y x → ⊥

pub empties_none : {X : Type 0} → Empties {X = X} [] 0
empties_none {X} = record { size = refl; empty = λ y x h. none_at_nil y h.row h.at }

pub empties_more : {X : Type 0} (count : ℕ) (rows : List (Vec X)) (row : Vec X) → Empties rows count → row.items ≡ [] → Empties (rows ++ row ∷ []) (count + 1)
empties_more {X} count rows row e none = record {
  size = omega (arith, length-append rows (row ∷ []), e.size);
  empty = λ y x h. ⊎_elim (λ q. e.empty y x (record { row = h.row; at = q; has = h.has }))
      (λ q. none_in_nil x (subst (λ (l : List X). Contains l x) none (subst (λ (v : Vec X). Contains v.items x) (sym q.1) h.has))) (snoc_at rows row h.row y h.at);
}

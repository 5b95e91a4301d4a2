-- Lists of sets that gain tokens.
use Rattle.std.proofs.Common.{◌≡◌, ◌∙◌, sym, ap, refl, subst, ℕ, ◌+◌, ◌<◌, ◌≤◌, ◌⊎◌, inl, inr, ⊎_elim, List, [], ◌∷◌, ◌++◌, length, take, get_or, set, slice_get, Some, arith, ◌↔◌, append_assoc, length-append}
use Rattle.std.specs.List.{Contains}
use Rattle.std.proofs.lemmas.List.{length-set, append-nil}
use Rattle.std.proofs.lemmas.List.Elements.{Contains-append_left, Contains-append_right, Contains-append_cases, Contains-push, Contains-push_cases}
use Rattle.std.proofs.lemmas.Option.{slice_get_within, slice_get-get_or}
use Rattle.std.proofs.lemmas.Bool.{cases_eq}
use Rattle.ts_bits.specs.declared.set.BitSet.{BitSet}
use Rattle.ts_bits.specs.Members.{Marked, Has, IsWide}
use Rattle.ts_items.specs.Rows.{FromOne}
use Rattle.ts_items.specs.Sets.{HasAt, AreWide, GainsTokens, QueuesGains}
use Rattle.ts_items.proofs.ListLemmas.{one_at, get_set_same, get_set_other, none_in_nil, none_at_nil, snoc_at}
use Rattle.ts_items.proofs.EachLemmas.{each_none, each_old, each_new, each_cases}

pub has_at : (sets : List BitSet) (y : ℕ) (s : BitSet) → slice_get sets y ≡ Some s → (t : ℕ) → HasAt sets y t ↔ Has s t
has_at sets y s at t = ((λ h. subst (λ (b : BitSet). Has b t) (one_at sets y h.set s h.at at) h.has), (λ h. record { set = s; at = at; has = h }))

-- one set gains another
pub gains_at : (old : List BitSet) (at : ℕ) (s r : BitSet) (More : ℕ → Type 0) → at < length old → slice_get old at ≡ Some s → ((t : ℕ) → Has r t ↔ (Has s t ⊎ More t)) → ((n : ℕ) → AreWide n old → IsWide n r)
    → GainsTokens (λ y t. (y ≡ at) × More t) old (set old at r)
gains_at old at s r More inside is members wide = record {
  count = length-set old at r;
  members = λ y t. ⊎_elim (λ e. here y t e) (λ f. elsewhere y t f) (cases_eq y at);
  wide = λ n w y q h. ⊎_elim (λ e. subst (IsWide n) (one_at (set old at r) y r q (subst (λ (k : ℕ). slice_get (set old at r) k ≡ Some r) (sym e) (get_set_same old at r inside)) h) (wide n w))
      (λ f. w y q (sym (get_set_other old at y r f) ∙ h)) (cases_eq y at);
}
  where
    here : (y t : ℕ) → y ≡ at → HasAt (set old at r) y t ↔ (HasAt old y t ⊎ ((y < length old) × ((y ≡ at) × More t)))
    here y t e =
        let now : slice_get (set old at r) y ≡ Some r = subst (λ (k : ℕ). slice_get (set old at r) k ≡ Some r) (sym e) (get_set_same old at r inside) in
        let before : slice_get old y ≡ Some s = subst (λ (k : ℕ). slice_get old k ≡ Some s) (sym e) is in (
          (λ h.
              let q : Has r t = (has_at (set old at r) y r now t).0 h in
              ⊎_elim (λ a. inl (record { set = s; at = before; has = a })) (λ b. inr (omega (arith, e, inside), (e, b))) ((members t).0 q)),
          (λ h. record { set = r; at = now; has = (members t).1 (⊎_elim (λ a. inl ((has_at old y s before t).0 a)) (λ b. inr b.1.1) h) }),
        )

    elsewhere : (y t : ℕ) → (y ≡ at → ⊥) → HasAt (set old at r) y t ↔ (HasAt old y t ⊎ ((y < length old) × ((y ≡ at) × More t)))
    elsewhere y t f = (
      (λ h. inl (record { set = h.set; at = sym (get_set_other old at y r f) ∙ h.at; has = h.has })),
      (λ h. ⊎_elim (λ a. record { set = a.set; at = get_set_other old at y r f ∙ a.at; has = a.has }) (λ b. absurd (f b.1.0)) h),
    )

pub gains_none : (P : ℕ → ℕ → Type 0) (xs : List BitSet) → ((y t : ℕ) → P y t → ⊥) → GainsTokens P xs xs
gains_none P xs none = record { count = refl; members = λ y t. ((λ h. inl h), (λ h. ⊎_elim (λ a. a) (λ b. absurd (none y t b.1)) h)); wide = λ n w. w }

pub gains_both : (P Q R : ℕ → ℕ → Type 0) (a b c : List BitSet) → GainsTokens P a b → GainsTokens Q b c → ((y t : ℕ) → P y t → R y t) → ((y t : ℕ) → Q y t → R y t) → ((y t : ℕ) → R y t → P y t ⊎ Q y t) → GainsTokens R a c
gains_both P Q R a b c p q first second either = record {
  count = q.count ∙ p.count;
  members = λ y t. (
    (λ h. ⊎_elim (λ x. ⊎_elim (λ z. inl z) (λ z. inr (z.0, first y t z.1)) ((p.members y t).0 x)) (λ x. inr (omega (arith, x.0, p.count), second y t x.1)) ((q.members y t).0 h)),
    (λ h. (q.members y t).1 (⊎_elim (λ x. inl ((p.members y t).1 (inl x))) (λ x. ⊎_elim (λ z. inl ((p.members y t).1 (inr (x.0, z)))) (λ z. inr (omega (arith, x.0, p.count), z)) (either y t x.1)) h)),
  );
  wide = λ n w. q.wide n (p.wide n w);
}

pub gains_same : (P Q : ℕ → ℕ → Type 0) (a b : List BitSet) → GainsTokens P a b → ((y t : ℕ) → P y t → Q y t) → ((y t : ℕ) → Q y t → P y t) → GainsTokens Q a b
gains_same P Q a b p to from = record {
  count = p.count;
  members = λ y t. ((λ h. ⊎_elim (λ x. inl x) (λ x. inr (x.0, to y t x.1)) ((p.members y t).0 h)), (λ h. (p.members y t).1 (⊎_elim (λ x. inl x) (λ x. inr (x.0, from y t x.1)) h)));
  wide = p.wide;
}

module _ {A : Type 0} (P : A → ℕ → ℕ → Type 0) where
  pub gains_begin : (xs : List A) (sets : List BitSet) → GainsTokens (FromOne P (take 0 xs)) sets sets
  gains_begin xs sets = gains_none (FromOne P (take 0 xs)) sets (λ y t. each_none P xs y t)

  pub gains_more : (xs : List A) (k : ℕ) (d : A) (a b c : List BitSet) → k < length xs → GainsTokens (FromOne P (take k xs)) a b → GainsTokens (P (get_or xs k d)) b c → GainsTokens (FromOne P (take (k + 1) xs)) a c
  gains_more xs k d a b c below before one =
      gains_both (FromOne P (take k xs)) (P (get_or xs k d)) (FromOne P (take (k + 1) xs)) a b c before one (λ y t. each_old P xs k d below y t) (λ y t. each_new P xs k d below y t) (λ y t. each_cases P xs k d below y t)

  pub gains_all : (xs : List A) (k : ℕ) (a b : List BitSet) → take k xs ≡ xs → GainsTokens (FromOne P (take k xs)) a b → GainsTokens (FromOne P xs) a b
  gains_all xs k a b e h = subst (λ (l : List A). GainsTokens (FromOne P l) a b) e h

-- ---- the queue

pub tells_none : (sets : List BitSet) (queue : List ℕ) → QueuesGains sets sets queue queue
tells_none sets queue = record { more = []; is = sym (append-nil queue); inside = λ y h. absurd (none_in_nil y h); told = λ y. inr (λ t h. h) }

pub tells_both : (a b c : List BitSet) (q r s : List ℕ) → length b ≡ length a → QueuesGains a b q r → QueuesGains b c r s → QueuesGains a c q s
tells_both a b c q r s same one two = record {
  more = one.more ++ two.more;
  is = two.is ∙ ap (λ (l : List ℕ). l ++ two.more) one.is ∙ append_assoc q one.more two.more;
  inside = λ y h. ⊎_elim (λ w. one.inside y w) (λ w. let lt = two.inside y w in omega (arith, lt, same)) (Contains-append_cases one.more two.more y h);
  told = λ y. ⊎_elim (λ w. inl (Contains-append_left one.more two.more y w))
      (λ w. ⊎_elim (λ v. inl (Contains-append_right one.more two.more y v)) (λ v. inr (λ t h. w t (v t h))) (two.told y)) (one.told y);
}

-- a set that gained nothing
pub tells_same : (old : List BitSet) (at : ℕ) (s r : BitSet) (queue : List ℕ) → at < length old → slice_get old at ≡ Some s → r.words.items ≡ s.words.items → QueuesGains old (set old at r) queue queue
tells_same old at s r queue inside is same = record {
  more = [];
  is = sym (append-nil queue);
  inside = λ y h. absurd (none_in_nil y h);
  told = λ y. inr (λ t h. ⊎_elim
      (λ e.
      let now : slice_get (set old at r) y ≡ Some r = subst (λ (k : ℕ). slice_get (set old at r) k ≡ Some r) (sym e) (get_set_same old at r inside) in
      let before : slice_get old y ≡ Some s = subst (λ (k : ℕ). slice_get old k ≡ Some s) (sym e) is in
      let has : Has r t = (has_at (set old at r) y r now t).0 h in
      record { set = s; at = before; has = subst (λ (l : List ℕ). Marked l t) same has })
      (λ f. record { set = h.set; at = sym (get_set_other old at y r f) ∙ h.at; has = h.has }) (cases_eq y at));
}

-- a set that may have gained something
pub tells_more : (old : List BitSet) (at : ℕ) (r : BitSet) (queue : List ℕ) → at < length old → QueuesGains old (set old at r) queue (queue ++ at ∷ [])
tells_more old at r queue inside = record {
  more = at ∷ [];
  is = refl;
  inside = λ y h. subst (λ (k : ℕ). k < length old) (one_in at y h) inside;
  told = λ y. ⊎_elim (λ e. inl (subst (Contains (at ∷ [])) (sym e) (0, omega arith, refl)))
      (λ f. inr (λ t h. record { set = h.set; at = sym (get_set_other old at y r f) ∙ h.at; has = h.has })) (cases_eq y at);
}
  where
    one_in : (x y : ℕ) → Contains (x ∷ []) y → x ≡ y
    one_in x y (k, below, at) = let zero : k ≡ 0 = omega arith in subst (λ (m : ℕ). get_or (x ∷ []) m y ≡ y) zero at

-- two widths of one set are one
wide_more : (old : List BitSet) (at n m : ℕ) (s more : BitSet) → slice_get old at ≡ Some s → AreWide n old → AreWide m old → IsWide m more → IsWide n more
wide_more old at n m s more is w v h = subst (λ (k : ℕ). IsWide k more) (sym (v at s is).words ∙ (w at s is).words) h

-- a set that is joined to that of one symbol
pub join_gains : (old : List BitSet) (at symbol : ℕ) (d r more : BitSet) → at ≡ symbol → symbol < length old → ((t : ℕ) → Has r t ↔ (Has (get_or old at d) t ⊎ Has more t)) → ((n : ℕ) → IsWide n (get_or old at d) → IsWide n more → IsWide n r)
    → (n : ℕ) × AreWide n old × IsWide n more → GainsTokens (λ y t. (y ≡ symbol) × Has more t) old (set old at r)
join_gains old at symbol d r more same inside members wide w =
    let below : at < length old = omega (arith, same, inside) in
    let here = slice_get-get_or old at d below in
    subst (λ (x : ℕ). GainsTokens (λ y t. (y ≡ x) × Has more t) old (set old at r)) same
    (gains_at old at (get_or old at d) r (λ t. Has more t) below here members (λ n v. wide n (v at (get_or old at d) here) (wide_more old at n w.0 (get_or old at d) more here v w.1 w.2)))

pub join_grows : (old : List BitSet) (at symbol : ℕ) (r : BitSet) (queue longer : List ℕ) → at ≡ symbol → symbol < length old → longer ≡ queue ++ symbol ∷ [] → QueuesGains old (set old at r) queue longer
join_grows old at symbol r queue longer same inside is =
    subst (λ (l : List ℕ). QueuesGains old (set old at r) queue l) (ap (λ (x : ℕ). queue ++ x ∷ []) same ∙ sym is) (tells_more old at r queue (omega (arith, same, inside)))

pub join_stays : (old : List BitSet) (at symbol : ℕ) (d r : BitSet) (queue : List ℕ) → at ≡ symbol → symbol < length old → r.words.items ≡ (get_or old at d).words.items → QueuesGains old (set old at r) queue queue
join_stays old at symbol d r queue same inside words = let below : at < length old = omega (arith, same, inside) in tells_same old at (get_or old at d) r queue below (slice_get-get_or old at d below) words

-- a token that is given to itself
pub begin_gains : (old : List BitSet) (at n token : ℕ) (d r : BitSet) → at ≡ token → n ≡ token → token < length old → ((t : ℕ) → Has r t ↔ (Has (get_or old at d) t ⊎ (t ≡ n))) → ((m : ℕ) → IsWide m (get_or old at d) → IsWide m r)
    → GainsTokens (λ y t. (y ≡ token) × (t ≡ token)) old (set old at r)
begin_gains old at n token d r same one inside members wide =
    let below : at < length old = omega (arith, same, inside) in
    let here = slice_get-get_or old at d below in
    let g = gains_at old at (get_or old at d) r (λ t. t ≡ n) below here members (λ m v. wide m (v at (get_or old at d) here)) in
    gains_same (λ y t. (y ≡ at) × (t ≡ n)) (λ y t. (y ≡ token) × (t ≡ token)) old (set old at r) g (λ y t h. (h.0 ∙ same, h.1 ∙ one)) (λ y t h. (h.0 ∙ sym same, h.1 ∙ sym one))

-- the tokens up to a number, each given to itself
abbrev pub Selves : ℕ → ℕ → ℕ → Type 0
Selves k y t = (0 < t) × (t ≤ k) × (y ≡ t)

pub selves_none : (sets : List BitSet) → GainsTokens (Selves 0) sets sets
selves_none sets = gains_none (Selves 0) sets (λ y t h. let a = h.0 in let b = h.1 in omega arith)

pub selves_more : (k : ℕ) (a b c : List BitSet) → GainsTokens (Selves k) a b → GainsTokens (λ y t. (y ≡ k + 1) × (t ≡ k + 1)) b c → GainsTokens (Selves (k + 1)) a c
selves_more k a b c before one = gains_both (Selves k) (λ y t. (y ≡ k + 1) × (t ≡ k + 1)) (Selves (k + 1)) a b c before one
    (λ y t h. (h.0, (let le = h.1 in omega arith), h.2))
    (λ y t h. ((let e = h.1 in omega arith), (let e = h.1 in omega arith), h.0 ∙ sym h.1))
    (λ y t h. ⊎_elim (λ e. inr (h.2 ∙ e, e)) (λ f. inl (h.0, (let le = h.1 in omega (arith, le, f)), h.2)) (cases_eq t (k + 1)))

pub queue_more : (k : ℕ) (q r s : List ℕ) → ((y : ℕ) → Contains r y ↔ (Contains q y ⊎ ((0 < y) × (y ≤ k)))) → s ≡ r ++ (k + 1) ∷ [] → (y : ℕ) → Contains s y ↔ (Contains q y ⊎ ((0 < y) × (y ≤ k + 1)))
queue_more k q r s before is y = (
  (λ h. ⊎_elim (λ w. ⊎_elim (λ v. inl v) (λ v. inr (v.0, (let le = v.1 in omega arith))) ((before y).0 w)) (λ e. inr ((omega (arith, e)), (omega (arith, e))))
      (Contains-push_cases r (k + 1) y (subst (λ (l : List ℕ). Contains l y) is h))),
  (λ h. subst (λ (l : List ℕ). Contains l y) (sym is) (⊎_elim (λ w. Contains-append_left r ((k + 1) ∷ []) y ((before y).1 (inl w)))
      (λ w. ⊎_elim (λ e. subst (Contains (r ++ (k + 1) ∷ [])) (sym e) (Contains-push r (k + 1))) (λ f. Contains-append_left r ((k + 1) ∷ []) y ((before y).1 (inr (w.0, (let le = w.1 in omega (arith, le, f)))))) (cases_eq y (k + 1))) h)),
)

pub queue_none : (q : List ℕ) (y : ℕ) → Contains q y ↔ (Contains q y ⊎ ((0 < y) × (y ≤ 0)))
queue_none q y = ((λ h. inl h), (λ h. ⊎_elim (λ w. w) (λ w. absurd (let a = w.0 in let b = w.1 in omega arith)) h))

-- ---- emptied sets

pub record Emptied (old new : List BitSet) (at : ℕ) : Type 0 where
  pub count : length new ≡ length old
  pub empty : (y t : ℕ) → y < at → HasAt new y t → ⊥
  pub wide : (n : ℕ) → AreWide n old → AreWide n new

pub emptied_more : (old new : List BitSet) (at : ℕ) (d r : BitSet) → at < length new → Emptied old new at → ((t : ℕ) → Has r t → ⊥) → ((n : ℕ) → IsWide n (get_or new at d) → IsWide n r) → Emptied old (set new at r) (at + 1)
emptied_more old new at d r inside e none wide = record {
  count = length-set new at r ∙ e.count;
  empty = λ y t lt h. ⊎_elim
      (λ q. none t ((has_at (set new at r) y r (subst (λ (k : ℕ). slice_get (set new at r) k ≡ Some r) (sym q) (get_set_same new at r inside)) t).0 h))
      (λ f. e.empty y t (omega (arith, lt, f)) (record { set = h.set; at = sym (get_set_other new at y r f) ∙ h.at; has = h.has })) (cases_eq y at);
  wide = λ n w y q h. ⊎_elim
      (λ z. subst (IsWide n) (one_at (set new at r) y r q (subst (λ (k : ℕ). slice_get (set new at r) k ≡ Some r) (sym z) (get_set_same new at r inside)) h) (wide n (e.wide n w at (get_or new at d) (slice_get-get_or new at d inside))))
      (λ f. e.wide n w y q (sym (get_set_other new at y r f) ∙ h)) (cases_eq y at);
}

pub emptied_all : (old new : List BitSet) (at : ℕ) → length old ≤ at → Emptied old new at → (y t : ℕ) → HasAt new y t → ⊥
emptied_all old new at past e y t h = let w = slice_get_within new y h.set h.at in e.empty y t (omega (arith, w, past, e.count)) h

-- ---- sets that are made empty

pub record Empties (width : ℕ) (sets : List BitSet) (count : ℕ) : Type 0 where
  pub size : length sets ≡ count
  pub wide : AreWide width sets
  pub empty : (y t : ℕ) → HasAt sets y t → ⊥

pub empties_none : (width : ℕ) → Empties width [] 0
empties_none width = record { size = refl; wide = λ y s at. absurd (none_at_nil y s at); empty = λ y t h. none_at_nil y h.set h.at }

pub empties_more : (width count : ℕ) (sets : List BitSet) (s : BitSet) → Empties width sets count → IsWide width s → ((t : ℕ) → Has s t → ⊥) → Empties width (sets ++ s ∷ []) (count + 1)
empties_more width count sets s e w none = record {
  size = omega (arith, length-append sets (s ∷ []), e.size);
  wide = λ y r at. ⊎_elim (λ q. e.wide y r q) (λ q. subst (IsWide width) q.1 w) (snoc_at sets s r y at);
  empty = λ y t h. ⊎_elim (λ q. e.empty y t (record { set = h.set; at = q; has = h.has })) (λ q. none t (subst (λ (b : BitSet). Has b t) (sym q.1) h.has)) (snoc_at sets s h.set y h.at);
}

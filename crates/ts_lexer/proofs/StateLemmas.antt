-- The valid tokens of a state, gathered one after another.
use Rattle.std.proofs.Common.{◌≡◌, ◌∙◌, sym, ap, refl, subst, ℕ, ◌+◌, ◌≤◌, ◌<◌, ◌⊎◌, inl, inr, ⊎_elim, Bool, true, false, List, [], ◌∷◌, ◌++◌, ◌==◌, not, length, take, get_or, slice_get, Some, ◌↔◌, IsTrue, length-append, arith}
use Rattle.std.specs.List.{Contains}
use Rattle.std.proofs.lemmas.Bool.Decides.{Decides-eqb}
use Rattle.std.specs.Global.{Vec}
use Rattle.std.proofs.lemmas.List.{length-map, take_more}
use Rattle.std.proofs.lemmas.List.Elements.{Contains-append_left, Contains-push, Contains-push_cases}
use Rattle.std.proofs.lemmas.Option.{slice_get_within, slice_get_read}
use Rattle.ts_base.proofs.PlaceLemmas.{in_prefix, push_cases}
use Rattle.ts_core.specs.declared.action.Action.{Action}
use Rattle.ts_core.specs.declared.symbol.Symbol.{Symbol}
use Rattle.ts_table.specs.declared.view.ParseTable.{ParseTable}
use Rattle.ts_lexer.specs.Ahead.{contents_of, IsNumbered}
use Rattle.ts_lexer.specs.States.{HasAction, IsValidToken, acts, extra, AreValid, AreActing, GainsActing, HasList, HaveLists}

symbol_same : (s t : Symbol) → s.0 ≡ t.0 → s ≡ t
symbol_same s t e = ap {B = Symbol} (λ (n : ℕ). record { 0 = n }) e

nothing : {X : Type 0} (x : X) → Contains [] x → ⊥
nothing x (k, below, _) = omega arith

some_in : (xs : List Action) → (length xs ≡ 0 → ⊥) → (a : Action) × Contains xs a
some_in [] none = absurd (none refl)
some_in (x ∷ xs) none = (x, (0, (omega arith), refl))

pub acts_is : (xs : List Action) (none : Bool) → none ≡ (length xs == 0) → IsTrue (not none) ↔ ((a : Action) × Contains xs a)
acts_is xs none is = ((λ h. some_in xs (λ z. contrary none h (is ∙ (Decides-eqb (length xs) 0).1 z))), (λ h. by none refl h))
  where
    contrary : (b : Bool) → IsTrue (not b) → b ≡ true → ⊥
    contrary true h e = (let f : false ≡ true = h in cc)
    contrary false h e = (let f : false ≡ true = e in cc)

    by : (b : Bool) → none ≡ b → ((a : Action) × Contains xs a) → IsTrue (not b)
    by true e h = absurd (let z : length xs ≡ 0 = (Decides-eqb (length xs) 0).0 (sym is ∙ e) in let w = h.1.1 in omega arith)
    by false e h = refl

module _ (t : ParseTable) (state : ℕ) where
  pub acting_none : AreActing t state [] 0
  acting_none s = ((λ h. absurd (nothing s h)), (λ h. absurd (let w = h.0 in omega arith)))

  pub gains_push : (token : Symbol) (old : List Symbol) → HasAction t state token.0 → GainsActing t state token old (old ++ token ∷ [])
  gains_push token old has s = (
    (λ h. ⊎_elim (λ w. inl w) (λ w. inr (sym w, has)) (Contains-push_cases old token s h)),
    (λ h. ⊎_elim (λ w. Contains-append_left old (token ∷ []) s w) (λ w. subst (λ (x : Symbol). Contains (old ++ token ∷ []) x) (sym w.0) (Contains-push old token)) h),
  )

  pub gains_none : (token : Symbol) (old : List Symbol) → (HasAction t state token.0 → ⊥) → GainsActing t state token old old
  gains_none token old has s = ((λ h. inl h), (λ h. ⊎_elim (λ w. w) (λ w. absurd (has w.1)) h))

  pub acting_more : (token : Symbol) (old new : List Symbol) → AreActing t state old token.0 → GainsActing t state token old new → AreActing t state new (token.0 + 1)
  acting_more token old new before gains s = (
    (λ h. ⊎_elim
        (λ w. let b = (before s).0 w in ((let l = b.0 in omega arith), b.1))
        (λ w. (
          (let e = ap (λ (x : Symbol). x.0) w.0 in omega arith),
          subst (λ (x : Symbol). HasAction t state x.0) (sym w.0) w.1,
        ))
        ((gains s).0 h)),
    (λ h. (gains s).1 (by h (cases s.0 token.0 h.0))),
  )
    where
      cases : (m n : ℕ) → m < n + 1 → (m < n) ⊎ (m ≡ n)
      cases m n lt = split (leb_of m n)
        where
          leb_of : (a b : ℕ) → (a < b) ⊎ (b ≤ a)
          leb_of a b = Rattle.std.proofs.lemmas.Bool.cases_lt a b

          split : (m < n) ⊎ (n ≤ m) → (m < n) ⊎ (m ≡ n)
          split (inl l) = inl l
          split (inr g) = inr (omega arith)

      by : ((s.0 < token.0 + 1) × HasAction t state s.0) → (s.0 < token.0) ⊎ (s.0 ≡ token.0) → Contains old s ⊎ ((s ≡ token) × HasAction t state token.0)
      by h (inl l) = inl ((before s).1 (l, h.1))
      by h (inr e) = inr (symbol_same s token e, subst (λ (n : ℕ). HasAction t state n) e h.1)

  -- the acting tokens, and then some of the extras
  abbrev pub WithExtras : List Symbol → List Symbol → Type 0
  WithExtras valid extras = (s : Symbol) → Contains valid s ↔ (((s.0 < length t.grammar.tokens + 1) × HasAction t state s.0) ⊎ Contains extras s)

  pub extras_none : (valid : List Symbol) → AreActing t state valid (length t.grammar.tokens + 1) → WithExtras valid []
  extras_none valid are s = ((λ h. inl ((are s).0 h)), (λ h. ⊎_elim (λ w. (are s).1 w) (λ w. absurd (nothing s w)) h))

  pub extras_more : (valid extras : List Symbol) (i : ℕ) (d : Symbol) → i < length extras → WithExtras valid (take i extras) → WithExtras (valid ++ get_or extras i d ∷ []) (take (i + 1) extras)
  extras_more valid extras i d below before =
      subst (λ (l : List Symbol). WithExtras (valid ++ get_or extras i d ∷ []) l) (sym (take_more extras i d below)) (one (get_or extras i d))
    where
      one : (x : Symbol) → WithExtras (valid ++ x ∷ []) (take i extras ++ x ∷ [])
      one x s = (
        (λ h. ⊎_elim
            (λ w. ⊎_elim (λ v. inl v) (λ v. inr (Contains-append_left (take i extras) (x ∷ []) s v)) ((before s).0 w))
            (λ w. inr (subst (λ (y : Symbol). Contains (take i extras ++ x ∷ []) y) w (Contains-push (take i extras) x)))
            (Contains-push_cases valid x s h)),
        (λ h. ⊎_elim
            (λ w. Contains-append_left valid (x ∷ []) s ((before s).1 (inl w)))
            (λ w. ⊎_elim
            (λ v. Contains-append_left valid (x ∷ []) s ((before s).1 (inr v)))
            (λ v. subst (λ (y : Symbol). Contains (valid ++ x ∷ []) y) v (Contains-push valid x))
            (Contains-push_cases (take i extras) x s w))
            h),
      )

  pub are_valid : (valid : List Symbol) → WithExtras valid t.grammar.extras → AreValid t state valid
  are_valid valid all s = ((λ h. to ((all s).0 h)), (λ h. (all s).1 (from h)))
    where
      to : ((s.0 < length t.grammar.tokens + 1) × HasAction t state s.0) ⊎ Contains t.grammar.extras s → IsValidToken t state s
      to (inl w) = acts (let l = w.0 in omega arith) w.1
      to (inr w) = extra w

      from : IsValidToken t state s → ((s.0 < length t.grammar.tokens + 1) × HasAction t state s.0) ⊎ Contains t.grammar.extras s
      from (acts below has) = inl ((omega arith), has)
      from (extra w) = inr w

-- ---- the lists of all states

-- the lists of the first so many states
pub record Listing (t : ParseTable) (lists : List (List Symbol)) (numbers : List ℕ) (n : ℕ) : Type 0 where
  pub count : length numbers ≡ n
  pub each : (state k : ℕ) → slice_get numbers state ≡ Some k → HasList t state lists k

pub listing_none : (t : ParseTable) (lists : List (List Symbol)) → Listing t lists [] 0
listing_none t lists = record { count = refl; each = λ state k at. absurd (let w = slice_get_within [] state k at in omega (arith, w)) }

pub listing_more : (t : ParseTable) (old new : List (List Symbol)) (numbers : List ℕ) (n k : ℕ) (valid : List Symbol) → Listing t old numbers n → IsNumbered old new valid k → AreValid t n valid
    → Listing t new (numbers ++ k ∷ []) (n + 1)
listing_more t old new numbers n k valid before is are = record {
  count = (let c = before.count in let l = length-append numbers (k ∷ []) in omega arith);
  each = λ state j at. ⊎_elim
      (λ w. kept state j (before.each state j w.1))
      (λ w.
      let same : state ≡ n = w.0 ∙ before.count in
      subst (λ (i : ℕ). HasList t state new i) w.1 (record { valid = valid; at = is.at; are_valid = subst (λ (i : ℕ). AreValid t i valid) (sym same) are }))
      (push_cases numbers k state j at);
}
  where
    kept : (state j : ℕ) → HasList t state old j → HasList t state new j
    kept state j has = record {
      valid = has.valid;
      at = ap (λ (l : List (List Symbol)). slice_get l j) is.is ∙ in_prefix old is.more j (slice_get_within old j has.valid has.at) ∙ has.at;
      are_valid = has.are_valid;
    }

-- the list of a state, by its number
pub state_list : (t : ParseTable) (state : ℕ) (lists : List (List Symbol)) (numbers : List ℕ) (k : ℕ) → HaveLists t lists numbers → state < length t.rows → k ≡ get_or numbers state k
    → HasList t state lists k
state_list t state lists numbers k have below at = have.each state k (slice_get_read numbers (length numbers) state k refl (let c = have.count in omega arith) at)

pub list_within : (t : ParseTable) (state : ℕ) (lists : List (Vec Symbol)) (k : ℕ) → HasList t state (contents_of lists) k → k < length lists
list_within t state lists k has =
    let w = slice_get_within (contents_of lists) k has.valid has.at in
    let e = length-map lists (λ (v : Vec Symbol). v.items) in
    omega arith

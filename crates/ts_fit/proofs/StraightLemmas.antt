-- Rules that are gone through, those that a rule leads to before the rule itself.
use Rattle.std.proofs.Common.{◌≡◌, ◌∙◌, sym, ap, refl, subst, ℕ, zero, suc, ◌+◌, ◌-◌, ◌<◌, ◌≤◌, ◌⊎◌, inl, inr, ⊎_elim, List, [], ◌∷◌, ◌++◌, length, get_or, slice_get, Some, None, arith}
use Rattle.std.specs.List.{Contains}
use Rattle.std.proofs.lemmas.Bool.{cases_lt}
use Rattle.std.proofs.lemmas.List.Elements.{Contains-append_left, Contains-push, Contains-push_cases}
use Rattle.std.proofs.lemmas.Option.{slice_get_read, slice_get_within}
use Rattle.ts_base.proofs.PlaceLemmas.{in_prefix}
use Rattle.ts_core.specs.declared.flat.FlatGrammar.{FlatGrammar}
use Rattle.ts_core.specs.declared.flat.FlatRule.{FlatRule}
use Rattle.ts_core.specs.declared.flat.Production.{Production}
use Rattle.ts_core.specs.declared.symbol.Symbol.{Symbol}
use Rattle.spec_tables.specs.Fit.{Alone, Derives, IsCyclic, at_once, rule_symbol, through}
use Rattle.ts_fit.specs.Misfits.{FindsFirst}
use Rattle.ts_fit.specs.Searches.{Adds, LeadsAlone, LeadsTo}
use Rattle.ts_fit.specs.Straight.{AreInOrder, IsSettled, IsWaiting, Pushed, GoesThrough}
use Rattle.ts_fit.specs.declared.straight.Frame.{Frame}
use Rattle.ts_fit.proofs.CyclicLemmas.{cyclic_within, first_rule, led_by, one_rule}
use Rattle.ts_fit.proofs.ListLemmas.{at_of, cases_lt_or_eq, past, there}

-- ---- the productions of a frame

one_production : (ps : List Production) (k : ℕ) (p q : Production) → slice_get ps k ≡ Some p → slice_get ps k ≡ Some q → p ≡ q
one_production ps k p q a b = let e : Some p ≡ Some q = sym a ∙ b in cc

pub settled_more : (f : FlatGrammar) (done : List ℕ) (from number : ℕ) (r : FlatRule) (ps : List Production) (p : Production) → slice_get f.rules from ≡ Some r → ps ≡ r.productions → number < length ps
    → p ≡ get_or ps number p → ((to : ℕ) → LeadsTo f p to → Contains done to) → IsSettled f done from number → IsSettled f done from (number + 1)
settled_more f done from number r ps p at is below reads none before other to lt h =
    ⊎_elim (λ w. before other to w h) (λ e. here e) (cases_lt_or_eq other number lt)
  where
    mine : slice_get r.productions number ≡ Some p
    mine = subst (λ (l : List Production). slice_get l number ≡ Some p) is (slice_get_read ps (length ps) number p refl below reads)

    here : other ≡ number → Contains done to
    here e =
        let rule = one_rule f from from h.0 r h.2 at refl in
        let other_at = subst (λ (k : ℕ). slice_get r.productions k ≡ Some h.1) e (subst (λ (o : FlatRule). slice_get o.productions other ≡ Some h.1) rule h.3) in
        none to (subst (λ (q : Production). LeadsTo f q to) (one_production r.productions number h.1 p other_at mine) h.4)

pub settled_all : (f : FlatGrammar) (done : List ℕ) (from number : ℕ) (r : FlatRule) (ps : List Production) → slice_get f.rules from ≡ Some r → ps ≡ r.productions → length ps ≤ number
    → IsSettled f done from number → (to : ℕ) → LeadsAlone f from to → Contains done to
settled_all f done from number r ps at is past' before to h =
    let w = led_by f from to r at h in
    let n = w.1 in
    let len = ap (λ (l : List Production). length l) is in
    before n.0 to (let lt = n.1 in omega arith) (r, w.0, at, at_of r.productions w.0 n, w.2)

-- ---- frames

pub running_more : (f : FlatGrammar) (place : ℕ) (stack new : List Frame) → place < length f.rules → new ≡ stack ++ record { place = place; next = 0 } ∷ [] → GoesThrough f place [] stack → GoesThrough f (place + 1) [] new
running_more f place stack new below is before = rw is (record {
  order = before.order;
  frames = λ frame h. ⊎_elim (λ w. before.frames frame w) (λ e. subst (λ (fr : Frame). (fr.place < length f.rules) × IsSettled f [] fr.place fr.next) e (below, λ number to lt w. absurd (omega arith)))
      (Contains-push_cases stack (record { place = place; next = 0 }) frame h);
  covered = λ other lt. ⊎_elim (λ w. ⊎_elim (λ d. inl d) (λ v. inr (v.0, Contains-append_left stack (record { place = place; next = 0 } ∷ []) v.0 v.1, v.2)) (before.covered other w))
      (λ e. inr (record { place = place; next = 0 }, Contains-push stack (record { place = place; next = 0 }), sym e))
      (cases_lt_or_eq other place lt);
})

pub running_frame : (f : FlatGrammar) (count : ℕ) (done : List ℕ) (old rest : List Frame) (frame : Frame) → old ≡ rest ++ frame ∷ [] → GoesThrough f count done old → (frame.place < length f.rules) × IsSettled f done frame.place frame.next
running_frame f count done old rest frame is before = before.frames frame (subst (λ (l : List Frame). Contains l frame) (sym is) (Contains-push rest frame))

pub running_open : (f : FlatGrammar) (count : ℕ) (done : List ℕ) (old rest new : List Frame) (frame child : Frame) → old ≡ rest ++ frame ∷ [] → child.place < length f.rules → IsSettled f done frame.place child.next
    → Pushed rest frame.place child new → GoesThrough f count done old → GoesThrough f count done new
running_open f count done old rest new frame child is below settled pushed before = rw pushed (record {
  order = before.order;
  frames = λ fr h. ⊎_elim (λ w. ⊎_elim (λ v. before.frames fr (in_old fr v)) (λ e. subst IsGood e ((running_frame f count done old rest frame is before).0, settled)) (Contains-push_cases rest again fr w))
      (λ e. subst IsGood e (below, λ number to lt w. absurd (omega arith)))
      (Contains-push_cases (rest ++ again ∷ []) top fr h);
  covered = λ place lt. ⊎_elim (λ d. inl d) (λ v. inr (waits place v)) (before.covered place lt);
})
  where
    again : Frame
    again = record { place = frame.place; next = child.next }

    top : Frame
    top = record { place = child.place; next = 0 }

    IsGood : Frame → Type 0
    IsGood fr = (fr.place < length f.rules) × IsSettled f done fr.place fr.next

    in_old : (fr : Frame) → Contains rest fr → Contains old fr
    in_old fr h = subst (λ (l : List Frame). Contains l fr) (sym is) (Contains-append_left rest (frame ∷ []) fr h)

    waits : (place : ℕ) → IsWaiting old place → IsWaiting ((rest ++ again ∷ []) ++ top ∷ []) place
    waits place v = ⊎_elim
        (λ w. (v.0, Contains-append_left (rest ++ again ∷ []) (top ∷ []) v.0 (Contains-append_left rest (again ∷ []) v.0 w), v.2))
        (λ e. (again, Contains-append_left (rest ++ again ∷ []) (top ∷ []) again (Contains-push rest again), ap (λ (fr : Frame). fr.place) e ∙ v.2))
        (Contains-push_cases rest frame v.0 (subst (λ (l : List Frame). Contains l v.0) is v.1))

-- a rule is done once each rule that it leads to is done
in_order : (f : FlatGrammar) (done new : List ℕ) (place : ℕ) → ((to : ℕ) → LeadsAlone f place to → Contains done to) → Adds (λ at. at ≡ place) done new → AreInOrder f done → AreInOrder f new
in_order f done new place ready adds before k from to at h = ⊎_elim (λ lt. old lt) (λ ge. added ge) (cases_lt k (length done))
  where
    here : (m x : ℕ) → slice_get done m ≡ Some x → slice_get new m ≡ Some x
    here m x w = ap (λ (l : List ℕ). slice_get l m) adds.is ∙ in_prefix done adds.more m (slice_get_within done m x w) ∙ w

    at' : slice_get (done ++ adds.more) k ≡ Some from
    at' = ap (λ (l : List ℕ). slice_get l k) (sym adds.is) ∙ at

    old : k < length done → (m : ℕ) × (m < k) × (slice_get new m ≡ Some to)
    old lt = let w = before k from to (sym (in_prefix done adds.more k lt) ∙ at') h in (w.0, w.1, here w.0 to w.2)

    added : length done ≤ k → (m : ℕ) × (m < k) × (slice_get new m ≡ Some to)
    added ge =
        let e : length done + (k - length done) ≡ k = omega arith in
        let more = sym (past done adds.more (k - length done)) ∙ ap (slice_get (done ++ adds.more)) e ∙ at' in
        let same : from ≡ place = adds.only from (there adds.more (k - length done) from more) in
        let w = ready to (subst (λ (x : ℕ). LeadsAlone f x to) same h) in
        (w.0, (let lt = w.1 in omega arith), here w.0 to (at_of done to w))

pub running_done : (f : FlatGrammar) (count : ℕ) (done new : List ℕ) (old rest : List Frame) (frame : Frame) → old ≡ rest ++ frame ∷ [] → ((to : ℕ) → LeadsAlone f frame.place to → Contains done to)
    → GoesThrough f count done old → Adds (λ at. at ≡ frame.place) done new → GoesThrough f count new rest
running_done f count done new old rest frame is ready before adds = record {
  order = in_order f done new frame.place ready adds before.order;
  frames = λ fr h. let w = before.frames fr (subst (λ (l : List Frame). Contains l fr) (sym is) (Contains-append_left rest (frame ∷ []) fr h)) in (w.0, λ number to lt v. kept to (w.1 number to lt v));
  covered = λ place lt. ⊎_elim (λ d. inl (kept place d)) (λ v. waits place v) (before.covered place lt);
}
  where
    kept : (x : ℕ) → Contains done x → Contains new x
    kept x h = subst (λ (l : List ℕ). Contains l x) (sym adds.is) (Contains-append_left done adds.more x h)

    waits : (place : ℕ) → IsWaiting old place → Contains new place ⊎ IsWaiting rest place
    waits place v = ⊎_elim (λ w. inr (v.0, w, v.2)) (λ e. inl (adds.added place (sym v.2 ∙ ap (λ (fr : Frame). fr.place) (sym e))))
        (Contains-push_cases rest frame v.0 (subst (λ (l : List Frame). Contains l v.0) is v.1))

-- ---- the end

-- what a rule derives alone is done before it
earlier : (f : FlatGrammar) (done : List ℕ) → AreInOrder f done → (k from to : ℕ) (s t : Symbol) → slice_get done k ≡ Some from → s ≡ rule_symbol f from → t ≡ rule_symbol f to → to < length f.rules → Derives f s t
    → (m : ℕ) × (m < k) × (slice_get done m ≡ Some to)
earlier f done order k from to s t at first last below (at_once _ _ h) =
    order k from to at (subst (λ (z : Symbol). Alone f (rule_symbol f from) z) last (subst (λ (z : Symbol). Alone f z t) first h), below)
earlier f done order k from to s t at first last below (through _ b _ h rest) =
    let w = first_rule f b t rest in
    let one = order k from w.0 at (subst (λ (z : Symbol). Alone f (rule_symbol f from) z) w.2 (subst (λ (z : Symbol). Alone f z b) first h), w.1) in
    let more = earlier f done order one.0 w.0 to b t one.2 w.2 last below rest in
    (more.0, (let lt = more.1 in let le = one.1 in omega arith), more.2)

no_circle : (f : FlatGrammar) (done : List ℕ) → AreInOrder f done → (bound k place : ℕ) → k < bound → slice_get done k ≡ Some place → IsCyclic f place → ⊥
no_circle f done order zero k place lt at h = omega arith
no_circle f done order (suc bound) k place lt at h =
    let w = earlier f done order k place place (rule_symbol f place) (rule_symbol f place) at refl refl (cyclic_within f place h) h in
    no_circle f done order bound w.0 place (let le = w.1 in omega arith) w.2 h

pub straight : (f : FlatGrammar) (done : List ℕ) (stack : List Frame) → stack ≡ [] → GoesThrough f (length f.rules) done stack → FindsFirst (IsCyclic f) None
straight f done stack is running place h = ⊎_elim (λ w. no_circle f done running.order (suc w.0) w.0 place (omega arith) (at_of done place w) h) (λ v. no_frame v.0 (subst (λ (l : List Frame). Contains l v.0) is v.1))
    (running.covered place (cyclic_within f place h))
  where
    no_frame : (frame : Frame) → Contains [] frame → ⊥
    no_frame frame (k, below, _) = omega arith

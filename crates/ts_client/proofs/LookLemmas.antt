-- Turns that left the entries as they were, one after the other.
use Rattle.std.proofs.Common.{◌≡◌, ◌∙◌, sym, ap, refl, subst, ℕ, zero, suc, ◌+◌, ◌<◌, ◌≤◌, nat_lt, nat_eq, if◌then◌else◌, false, Bool, ◌⊎◌, inl, inr, ⊎_elim, List, [], ◌∷◌, ◌++◌, length, append_assoc, arith}
use Rattle.std.proofs.lemmas.Bool.{le-ltb}
use Rattle.std.proofs.lemmas.Bool.Decides.{nat_tests, eqb_tells}
use Rattle.std.proofs.lemmas.List.{append-nil, length-append}
use Rattle.ts_shelf.specs.declared.journal.Entry.{Entry}
use Rattle.ts_shelf.specs.declared.view.Knowledge.{Knowledge}
use Rattle.ts_shelf.specs.Entries.{occurrences, RisesWithin, Extends}
use Rattle.ts_shelf.specs.Calls.{TakesTurn, TakesNoTurn, Looked, IsNewer}
use Rattle.ts_shelf.specs.Machine.{Event, Response}
use Rattle.spec_clients.specs.Served.{taken_until}
use Rattle.ts_client.specs.Turns.{TakesIdle, LooksUntil, SamePass}
use Rattle.ts_client.proofs.SeenFirst.{entries_early, early_was_seen}

-- ---- lists of turns

pub occurs_append : (x : ℕ) (ys zs : List ℕ) → occurrences x (ys ++ zs) ≡ occurrences x ys + occurrences x zs
occurs_append x [] zs = omega arith
occurs_append x (y ∷ ys) zs = let h = occurs_append x ys zs in omega arith

pub only_one : (x y : ℕ) → 0 < occurrences x (y ∷ []) → x ≡ y
only_one x y here = ⊎_elim (λ w. w.1)
    (λ w.
    let more : 0 < (if nat_eq x y then 1 else 0) + 0 = here in
    let none : 0 < (if false then 1 else 0) + 0 = subst (λ (b : Bool). 0 < (if b then 1 else 0) + 0) w.0 more in
    absurd (let f : ⊥ = omega (arith, none) in f))
    (eqb_tells x y)

pub one_there : (x : ℕ) → 0 < occurrences x (x ∷ [])
one_there x = grind (arith, nat_tests)

-- where all turns are at most this one, all are counted
pub until_all : (t : ℕ) (turns : List ℕ) → ((x : ℕ) → 0 < occurrences x turns → x ≤ t) → taken_until t turns ≡ length turns
until_all t [] all = refl
until_all t (x ∷ turns) all =
    let first : nat_lt t x ≡ false = le-ltb t x (all x (first_there x turns)) in
    let rest : taken_until t turns ≡ length turns = until_all t turns (λ y here. all y (later_there y x turns here)) in
    rw first (omega (arith, rest))
  where
    first_there : (x : ℕ) (turns : List ℕ) → 0 < occurrences x (x ∷ turns)
    first_there x turns = grind (arith, nat_tests)

    later_there : (y x : ℕ) (turns : List ℕ) → 0 < occurrences y turns → 0 < occurrences y (x ∷ turns)
    later_there y x turns here = omega (arith, here)

module _ {I : Type 0} where
  pub rises_le : (low high : ℕ) (es : List (Entry I)) → RisesWithin low high es → low ≤ high
  rises_le low high [] h = h
  rises_le low high (e ∷ es) h = let a = h.0 in let b = h.1 in omega (arith, a, b)

  pub rises_on : (low high more : ℕ) (es : List (Entry I)) → high ≤ more → RisesWithin low high es → RisesWithin low more es
  rises_on low high more [] le rises = omega (arith, le, rises)
  rises_on low high more (x ∷ es) le rises = (rises.0, (let lt = rises.1 in omega (arith, lt, le)), rises_on (x.turn + 1) high more es le rises.2)

  rises_lower : (low mid high : ℕ) (es : List (Entry I)) → low ≤ mid → RisesWithin mid high es → RisesWithin low high es
  rises_lower low mid high [] le rises = omega (arith, le, rises)
  rises_lower low mid high (e ∷ es) le rises = ((let a = rises.0 in omega (arith, le, a)), rises.1, rises.2)

  pub rises_append : (low mid high : ℕ) (xs ys : List (Entry I)) → RisesWithin low mid xs → RisesWithin mid high ys → RisesWithin low high (xs ++ ys)
  rises_append low mid high [] ys h k = rises_lower low mid high ys h k
  rises_append low mid high (x ∷ xs) ys h k =
      let a = h.1 in
      let b = rises_le mid high ys k in
      (h.0, omega (arith, a, b), rises_append (x.turn + 1) mid high xs ys h.2 k)

  pub extends_chain : (low mid high : ℕ) (all some seen : List (Entry I)) → Extends low mid some seen → Extends mid high all some → Extends low high all seen
  extends_chain low mid high all some seen a b = (
    a.0 ++ b.0,
    b.1 ∙ ap (λ (l : List (Entry I)). l ++ b.0) a.1 ∙ append_assoc seen a.0 b.0,
    rises_append low mid high a.0 b.0 a.2 b.2,
  )

-- ---- turns

module _ {S I : Type 0} where
  -- a turn that changed nothing
  pub one_idle : (old new : Knowledge S I) (turn : ℕ) (event : Event I) (response : Response) (t : TakesTurn old new turn event response)
      → new.seen ≡ t.before → (number : ℕ) → number ≡ length new.seen → LooksUntil old new (turn ∷ []) turn number
  one_idle old new turn event response t same number is =
      let from : old.turn ≤ turn = rises_le old.turn turn t.extends.0 t.extends.2 in
      let next : new.turn ≡ turn + 1 = t.next in
      let smaller : RisesWithin 0 turn new.seen = subst (RisesWithin 0 turn) (sym same) t.event_is.smaller in
      record {
        idle = record {
          extends = (t.extends.0, same ∙ t.extends.1, rises_on old.turn turn new.turn t.extends.0 (omega (arith, next)) t.extends.2);
          taken = t.taken;
          within = λ x here. let e : x ≡ turn = only_one x turn here in (omega (arith, e, from), omega (arith, e, next));
          apart = omega (arith, from, next);
          idle = λ place e at here.
              let same_turn : e.turn ≡ turn = only_one e.turn turn here in
              let early : e.turn < turn = entries_early 0 turn new.seen smaller place e at in
              omega (arith, same_turn, early);
        };
        last = one_there turn;
        next = next;
        smaller = smaller;
        number_is = is;
      }

  pub looked_once : (old new : Knowledge S I) (turn number : ℕ) → Looked old new turn number → LooksUntil old new (turn ∷ []) turn number
  looked_once old new turn number l = one_idle old new turn _ _ l.turned l.turned.event_is.done.same number l.number_is

  pub newer_once : (old new : Knowledge S I) (base : ℕ) (item : I) (turn number : ℕ) → IsNewer old new base item turn number → LooksUntil old new (turn ∷ []) turn number
  newer_once old new base item turn number n = one_idle old new turn _ _ n.turned n.turned.event_is.done.same number n.number_is

  pub none_idle : (old new : Knowledge S I) → TakesNoTurn old new → TakesIdle old new []
  none_idle old new n =
      let same = n.turn in
      record {
        extends = ([], n.seen ∙ sym (append-nil old.seen), omega (arith, same));
        taken = n.taken ∙ sym (append-nil old.taken);
        within = λ x here. absurd (let f : ⊥ = omega (arith, here) in f);
        apart = omega (arith, same);
        idle = λ place e at here. omega (arith, here);
      }

  -- nothing at all
  pub same_idle : (k : Knowledge S I) → TakesIdle k k []
  same_idle k = record {
    extends = ([], sym (append-nil k.seen), omega arith);
    taken = sym (append-nil k.taken);
    within = λ x here. absurd (let f : ⊥ = omega (arith, here) in f);
    apart = omega arith;
    idle = λ place e at here. omega (arith, here);
  }

  -- turns after others
  pub idle_chain : (a b c : Knowledge S I) (xs ys : List ℕ) → TakesIdle a b xs → TakesIdle b c ys → TakesIdle a c (xs ++ ys)
  idle_chain a b c xs ys p q =
      let first : a.turn ≤ b.turn = rises_le a.turn b.turn p.extends.0 p.extends.2 in
      let second : b.turn ≤ c.turn = rises_le b.turn c.turn q.extends.0 q.extends.2 in
      record {
        extends = extends_chain a.turn b.turn c.turn c.seen b.seen a.seen p.extends q.extends;
        taken = q.taken ∙ ap (λ (l : List ℕ). l ++ ys) p.taken ∙ append_assoc a.taken xs ys;
        within = λ x here. ⊎_elim
            (λ h. let w = p.within x h in let u = w.0 in let v = w.1 in (u, omega (arith, v, second)))
            (λ h. let w = q.within x h in let u = w.0 in let v = w.1 in (omega (arith, u, first), v))
            (either_part x here);
        apart = let l = length-append xs ys in let u = p.apart in let v = q.apart in omega (arith, l, u, v);
        idle = λ place e at here. ⊎_elim
            (λ h.
            let early = (p.within e.turn h).1 in
            p.idle place e (early_was_seen b.turn c.turn c.seen b.seen q.extends place e at early) h)
            (λ h. q.idle place e at h)
            (either_part e.turn here);
      }
    where
      either_part : (x : ℕ) → 0 < occurrences x (xs ++ ys) → (0 < occurrences x xs) ⊎ (0 < occurrences x ys)
      either_part x here = by (occurrences x xs) refl
        where
          by : (n : ℕ) → occurrences x xs ≡ n → (0 < occurrences x xs) ⊎ (0 < occurrences x ys)
          by zero none = let sum = occurs_append x xs ys in inr (omega (arith, sum, here, none))
          by (suc n) some = inl (omega (arith, some))

  -- a look after others
  pub look_more : (a b c : Knowledge S I) (xs : List ℕ) (turn number : ℕ) → TakesIdle a b xs → LooksUntil b c (turn ∷ []) turn number → LooksUntil a c (xs ++ turn ∷ []) turn number
  look_more a b c xs turn number p q = record {
    idle = idle_chain a b c xs (turn ∷ []) p q.idle;
    last = let sum = occurs_append turn xs (turn ∷ []) in let here = one_there turn in omega (arith, sum, here);
    next = q.next;
    smaller = q.smaller;
    number_is = q.number_is;
  }

  pub same_pass_chain : (a b c : Knowledge S I) → SamePass a b → SamePass b c → SamePass a c
  same_pass_chain a b c p q = record { first = q.first ∙ p.first; out = q.out ∙ p.out; opening = q.opening ∙ p.opening }

  pub turned_same : (old new : Knowledge S I) (turn : ℕ) (event : Event I) (response : Response) → TakesTurn old new turn event response → SamePass old new
  turned_same old new turn event response t = record { first = t.rank.0; out = t.rank.1; opening = t.opening }

  pub unturned_same : (old new : Knowledge S I) → TakesNoTurn old new → SamePass old new
  unturned_same old new t = record { first = t.rank.0; out = t.rank.1; opening = t.opening }

-- A first pass that takes in one pass after the other.
use Rattle.std.proofs.Common.{◌≡◌, ◌∙◌, sym, ap, refl, subst, ℕ, ◌+◌, ◌≤◌, max, ⊎_elim, List, [], ◌∷◌, ◌++◌, length, append_assoc, arith}
use Rattle.std.proofs.lemmas.List.{append-nil, length-append, flat_map_more}
use Rattle.ts_base.proofs.PlaceLemmas.{push_cases}
use Rattle.ts_shelf.specs.declared.journal.Entry.{Entry}
use Rattle.ts_shelf.specs.declared.view.Knowledge.{Knowledge}
use Rattle.ts_shelf.specs.Entries.{RisesWithin, Extends}
use Rattle.ts_shelf.specs.Passes.{IsPass, IsFirst}
use Rattle.ts_shelf.specs.Calls.{IsJoin}
use Rattle.ts_docs.specs.declared.parsed.ParsedText.{ParsedText}
use Rattle.ts_docs.specs.declared.parsed.Drafted.{Drafted}
use Rattle.ts_docs.specs.Versions.{IsOfTable}
use Rattle.ts_client.specs.declared.desk.Desk.{Desk}
use Rattle.ts_workers.specs.declared.front.Front.{Front}
use Rattle.ts_workers.specs.Joins.{TakesIn, HasJoined, JoinsDesk}
use Rattle.ts_workers.proofs.ListLemmas.{nowhere}

rises_le : {I : Type 0} (low high : ℕ) (es : List (Entry I)) → RisesWithin low high es → low ≤ high
rises_le low high [] h = h
rises_le low high (e ∷ es) h = let a = h.0 in let b = h.1 in omega arith

rises_lower : {I : Type 0} (low mid high : ℕ) (ys : List (Entry I)) → low ≤ mid → RisesWithin mid high ys → RisesWithin low high ys
rises_lower low mid high [] le k = let k' : mid ≤ high = k in omega arith
rises_lower low mid high (y ∷ ys) le k = let a = k.0 in (omega arith, k.1, k.2)

rises_append : {I : Type 0} (low mid high : ℕ) (xs ys : List (Entry I)) → RisesWithin low mid xs → RisesWithin mid high ys → RisesWithin low high (xs ++ ys)
rises_append low mid high [] ys h k = rises_lower low mid high ys h k
rises_append low mid high (x ∷ xs) ys h k =
    let a = h.1 in
    let b = rises_le mid high ys k in
    (h.0, omega arith, rises_append (x.turn + 1) mid high xs ys h.2 k)

-- what was seen by one that is then overtaken itself
extends_later : {I : Type 0} (low mid high : ℕ) (all most seen : List (Entry I)) → Extends low mid most seen → Extends mid high all most → Extends low high all seen
extends_later {I} low mid high all most seen e f = (
  e.0 ++ f.0,
  f.1 ∙ ap (λ (l : List (Entry I)). l ++ f.0) e.1 ∙ append_assoc seen e.0 f.0,
  rises_append low mid high e.0 f.0 e.2 f.2,
)

abbrev Knows : Type 0
Knows = Knowledge ParsedText Drafted

pub takes_none : (k : Knows) → IsFirst k → TakesIn [] k k
takes_none k first = record {
  taken = sym (append-nil k.taken);
  extends = λ place o is. absurd (nowhere place o is);
  reached = λ place o is. absurd (nowhere place o is);
  out = omega arith;
  first = first;
  opening = refl;
}

pub takes_one : (others : List Knows) (old mid new o : Knows) → TakesIn others old mid → IsJoin mid o new → TakesIn (others ++ o ∷ []) old new
takes_one others old mid new o t j = record {
  taken = j.taken ∙ ap (λ (l : List ℕ). l ++ o.taken) t.taken ∙ flat_map_more (λ (x : Knows). x.taken) old.taken others o;
  extends = λ place p is. ⊎_elim
      (λ w. extends_later p.turn mid.turn new.turn new.seen mid.seen p.seen (t.extends place p w.1) j.own)
      (λ w. subst (λ (x : Knows). Extends x.turn new.turn new.seen x.seen) w.1 j.others)
      (push_cases others o place p is);
  reached = λ place p is. ⊎_elim
      (λ w. let a : p.reached ≤ mid.reached = t.reached place p w.1 in let b : mid.reached ≤ new.reached = own_side in omega (arith, a, b))
      (λ w. subst (λ (x : Knows). x.reached ≤ new.reached) w.1 other_side)
      (push_cases others o place p is);
  out =
      let more : length (others ++ o ∷ []) ≡ length others + 1 = length-append others (o ∷ []) in
      let a = j.out in
      let b = t.out in
      omega (arith, more, a, b);
  first = j.rank;
  opening = j.opening ∙ t.opening;
}
  where
    own_side : mid.reached ≤ new.reached
    own_side = let r : new.reached ≡ max mid.reached o.reached = j.reached in omega (arith, r)

    other_side : o.reached ≤ new.reached
    other_side = let r : new.reached ≡ max mid.reached o.reached = j.reached in omega (arith, r)

pub joined_none : (f : Front) → IsFirst f.pass.knows → IsPass IsOfTable f.pass.knows → HasJoined [] f f
joined_none f first is_pass = record { takes = takes_none f.pass.knows first; shelf_is = refl; is_pass = is_pass; version_is = refl }

pub joined_one : (others : List Knows) (old mid new : Front) (d : Desk) → HasJoined others old mid → JoinsDesk mid new d → HasJoined (others ++ d.pass.knows ∷ []) old new
joined_one others old mid new d h j = record {
  takes = takes_one others old.pass.knows mid.pass.knows new.pass.knows d.pass.knows h.takes j.joins;
  shelf_is = j.shelf_is ∙ h.shelf_is;
  is_pass = j.is_pass;
  version_is = j.version_is ∙ h.version_is;
}

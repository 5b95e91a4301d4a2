-- Documents on their shelves: one document more, and one client more.
use Rattle.std.proofs.Common.{◌≡◌, ◌∙◌, sym, ap, subst, ℕ, suc, ◌+◌, ◌<◌, ⊎_elim, List, [], ◌∷◌, ◌++◌, length, drop, slice_get, Some, arith}
use Rattle.std.proofs.lemmas.List.{length-append}
use Rattle.atomic_table.specs.Seated.{TableId}
use Rattle.ts_base.specs.Bytes.{Bytes}
use Rattle.ts_base.proofs.PlaceLemmas.{in_prefix, at_end, push_cases}
use Rattle.ts_table.specs.declared.view.ParseTable.{ParseTable}
use Rattle.ts_shelf.specs.declared.view.Knowledge.{Knowledge}
use Rattle.ts_shelf.specs.Passes.{IsPass, first_pass}
use Rattle.ts_docs.specs.declared.parsed.ParsedText.{ParsedText}
use Rattle.ts_docs.specs.declared.parsed.Drafted.{Drafted}
use Rattle.ts_docs.specs.Versions.{IsTextOf, IsOfTable}
use Rattle.ts_script.specs.declared.plan.Plan.{Plan}
use Rattle.ts_script.specs.declared.plan.ScriptStep.{ScriptStep}
use Rattle.ts_replay.specs.Runs.{weight_of, weight_left, edits_on}
use Rattle.ts_client.specs.declared.desk.Desk.{Desk}
use Rattle.ts_workers.specs.declared.front.Front.{Front}
use Rattle.ts_workers.specs.Fronts.{IsFront, IsLent, AreFronts, versions_of, AllMayLend, Lends, HaveLent}
use Rattle.ts_workers.specs.Joins.{AreOnShelves}
use Rattle.ts_workers.proofs.CountLemmas.{left_from}
use Rattle.ts_workers.proofs.ListLemmas.{same_at, beside, same_map}

-- ---- one document more

pub one_front : (plan : Plan) (table : ParseTable) (openings : List Bytes) (shelves : List TableId) (fronts : List Front) (text : Bytes) (shelf : TableId) (front : Front)
    → AreFronts plan table openings shelves 0 fronts → IsFront table text shelf front → IsLent plan (length fronts) 0 front.pass.knows
    → AreFronts plan table (openings ++ text ∷ []) (shelves ++ shelf ∷ []) 0 (fronts ++ front ∷ [])
one_front plan table openings shelves fronts text shelf front are is_front is_lent = record {
  shelves_are =
      let a : length (shelves ++ shelf ∷ []) ≡ length shelves + 1 = length-append shelves (shelf ∷ []) in
      let b : length (openings ++ text ∷ []) ≡ length openings + 1 = length-append openings (text ∷ []) in
      let same = are.shelves_are in
      omega (arith, a, b, same);
  count =
      let a : length (shelves ++ shelf ∷ []) ≡ length shelves + 1 = length-append shelves (shelf ∷ []) in
      let b : length (fronts ++ front ∷ []) ≡ length fronts + 1 = length-append fronts (front ∷ []) in
      let same = are.count in
      omega (arith, a, b, same);
  each = λ document opening s f o_is s_is f_is. ⊎_elim
      (λ w.
      let in_shelves : document < length shelves = (let lt = w.0 in let same = are.count in omega (arith, lt, same)) in
      let in_openings : document < length openings = (let same = are.shelves_are in omega (arith, in_shelves, same)) in
      are.each document opening s f (sym (in_prefix openings (text ∷ []) document in_openings) ∙ o_is) (sym (in_prefix shelves (shelf ∷ []) document in_shelves) ∙ s_is) w.1)
      (λ w.
      let at_shelf : document ≡ length shelves = w.0 ∙ are.count in
      let at_text : document ≡ length openings = at_shelf ∙ are.shelves_are in
      let a : text ≡ opening = same_at (openings ++ text ∷ []) (length openings) text opening (at_end openings text) (subst (λ (k : ℕ). slice_get (openings ++ text ∷ []) k ≡ Some opening) at_text o_is) in
      let b : shelf ≡ s = same_at (shelves ++ shelf ∷ []) (length shelves) shelf s (at_end shelves shelf) (subst (λ (k : ℕ). slice_get (shelves ++ shelf ∷ []) k ≡ Some s) at_shelf s_is) in
      subst (λ (t : Bytes). IsFront table t s f) a
      (subst (λ (x : TableId). IsFront table text x f) b
      (subst (λ (x : Front). IsFront table text shelf x) w.1 is_front)))
      (push_cases fronts front document f f_is);
  lent = λ document f f_is. ⊎_elim
      (λ w. are.lent document f w.1)
      (λ w. subst (λ (k : ℕ). IsLent plan k 0 f.pass.knows) (sym w.0) (subst (λ (x : Front). IsLent plan (length fronts) 0 x.pass.knows) w.1 is_lent))
      (push_cases fronts front document f f_is);
}

-- a document whose shelf was made of a book without entries
pub first_is_front : (table : ParseTable) (text : Bytes) (shelf : TableId) (f : Front) (opening : ParsedText) (room : ℕ)
    → f.pass.shelf ≡ shelf → IsPass IsOfTable f.pass.knows → f.pass.knows ≡ first_pass opening room → f.version ≡ opening → IsTextOf table 0 text opening
    → IsFront table text shelf f
first_is_front table text shelf f opening room shelf_is is_pass is same is_text = record {
  shelf_is = shelf_is;
  is_pass = is_pass;
  first = ap (λ (k : Knowledge ParsedText Drafted). k.first) is;
  opens = ap (λ (k : Knowledge ParsedText Drafted). k.opening) is ∙ ap (λ (v : ParsedText). Some v) (sym same);
  text = subst (IsTextOf table 0 text) (sym same) is_text;
}

-- the first pass of a shelf with room for all edits
pub first_is_lent : (plan : Plan) (document : ℕ) (opening : ParsedText) (room : ℕ) (k : Knowledge ParsedText Drafted)
    → k ≡ first_pass opening room → room ≡ weight_left (edits_on document) plan.clients [] → IsLent plan document 0 k
first_is_lent plan document opening room k is same = record {
  none_taken = ap (λ (x : Knowledge ParsedText Drafted). x.taken) is;
  out = ap (λ (x : Knowledge ParsedText Drafted). x.out) is;
  offers =
      let offers : k.offers ≡ room = ap (λ (x : Knowledge ParsedText Drafted). x.offers) is in
      omega (arith, offers, same);
}

-- ---- one client more

module _ (plan : Plan) (table : ParseTable) (openings : List Bytes) (shelves : List TableId) (clients : ℕ) (fronts : List Front)
    (are : AreFronts plan table openings shelves clients fronts) where
  -- the text of a document
  text_of : (document : ℕ) (f : Front) → slice_get fronts document ≡ Some f → (opening : Bytes) × (slice_get openings document ≡ Some opening)
  text_of document f is = beside fronts openings document f (are.count ∙ are.shelves_are) is

  pub front_at : (document : ℕ) (shelf : TableId) (f : Front) → slice_get shelves document ≡ Some shelf → slice_get fronts document ≡ Some f → (opening : Bytes) × IsFront table opening shelf f
  front_at document shelf f s_is f_is =
      let t = text_of document f f_is in
      (t.0, are.each document t.0 shelf f t.1 s_is f_is)

  pub are_on_shelves : AreOnShelves shelves fronts
  are_on_shelves = record {
    count = are.count;
    each = λ document shelf f s_is f_is.
        let at = (front_at document shelf f s_is f_is).1 in
        record { shelf_is = at.shelf_is; is_pass = at.is_pass; first = at.first };
  }

  module _ (steps : List ScriptStep) (steps_are : slice_get plan.clients clients ≡ Some steps) where
    left : (document : ℕ) → weight_left (edits_on document) (drop clients plan.clients) [] ≡ weight_of (edits_on document) steps + weight_left (edits_on document) (drop (suc clients) plan.clients) []
    left document = left_from (edits_on document) plan.clients clients steps steps_are

    pub may_lend : AllMayLend steps shelves fronts
    may_lend document shelf f s_is f_is =
        let at = (front_at document shelf f s_is f_is).1 in
        record {
          shelf_is = at.shelf_is;
          first = at.first;
          offers = (let a = left document in let b = (are.lent document f f_is).offers in omega (arith, a, b));
        }

    module _ (new : List Front) (desks : List Desk) (count : length desks ≡ length shelves) (lent : HaveLent steps fronts new desks) where
      -- what a document gave to the client
      pub lends_at : (document : ℕ) (n : Front) → slice_get new document ≡ Some n
          → (o : Front) × (d : Desk) × (slice_get fronts document ≡ Some o) × (slice_get desks document ≡ Some d) × Lends (weight_of (edits_on document) steps) o n d
      lends_at document n n_is =
          let o = beside new fronts document n lent.count n_is in
          let d = beside new desks document n (lent.count ∙ (are.count ∙ sym count)) n_is in
          (o.0, d.0, o.1, d.1, lent.each document o.0 n d.0 o.1 n_is d.1)

      front_stays : (opening : Bytes) (shelf : TableId) (offers : ℕ) (o n : Front) (d : Desk) → IsFront table opening shelf o → Lends offers o n d → IsFront table opening shelf n
      front_stays opening shelf offers o n d is l = record {
        shelf_is = l.own_shelf ∙ is.shelf_is;
        is_pass = l.own_pass;
        first = l.split.rank.0;
        opens = l.split.opening.0 ∙ (is.opens ∙ ap (λ (v : ParsedText). Some v) (sym l.own_version));
        text = subst (IsTextOf table 0 opening) (sym l.own_version) is.text;
      }

      pub one_client : AreFronts plan table openings shelves (suc clients) new
      one_client = record {
        shelves_are = are.shelves_are;
        count = lent.count ∙ are.count;
        each = λ document opening shelf n o_is s_is n_is.
            let at = lends_at document n n_is in
            front_stays opening shelf (weight_of (edits_on document) steps) at.0 n at.1 (are.each document opening shelf at.0 o_is s_is at.2) at.4;
        lent = λ document n n_is.
            let at = lends_at document n n_is in
            let was = are.lent document at.0 at.2 in
            let split = at.4.split in
            record {
              none_taken = split.taken.0 ∙ was.none_taken;
              out = (let a = split.out.0 in let b = was.out in omega (arith, a, b));
              offers = (let a = left document in let b = was.offers in let c = split.moved.0 in omega (arith, a, b, c));
            };
      }

      pub same_versions : versions_of new ≡ versions_of fronts
      same_versions = same_map (λ (f : Front). f.version) fronts new lent.count
          (λ document o n o_is n_is.
          let at = lends_at document n n_is in
          let same : at.0 ≡ o = same_at fronts document at.0 o at.2 o_is in
          at.4.own_version ∙ ap (λ (f : Front). f.version) same)

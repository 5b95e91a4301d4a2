-- The passes of one client more are taken in.
use Rattle.std.proofs.Common.{◌≡◌, ◌∙◌, sym, ap, refl, subst, ℕ, List, [], ◌∷◌, ◌++◌, length, take, drop, flat_map, slice_get, Some, option_map, arith}
use Rattle.std.proofs.lemmas.List.{flat_map_more}
use Rattle.std.proofs.lemmas.Option.{slice_get-map}
use Rattle.atomic_table.specs.Seated.{TableId}
use Rattle.ts_shelf.specs.declared.view.Knowledge.{Knowledge}
use Rattle.ts_docs.specs.declared.parsed.ParsedText.{ParsedText}
use Rattle.ts_docs.specs.declared.parsed.Drafted.{Drafted}
use Rattle.ts_client.specs.declared.desk.Desk.{Desk}
use Rattle.ts_client.specs.Working.{passes_of}
use Rattle.ts_workers.specs.declared.front.Front.{Front}
use Rattle.ts_workers.specs.Joins.{passes_on, HasJoined, HasFirst, AreOnShelves, HaveJoinedDesks, HaveJoined}
use Rattle.ts_workers.proofs.ListLemmas.{same_at, beside, one_there}
use Rattle.ts_workers.proofs.TakeLemmas.{joined_none, joined_one}

abbrev Knows : Type 0
Knows = Knowledge ParsedText Drafted

-- the pass of one client more
passes_more : {A : Type 0} (document : ℕ) (all : List (List A)) (own : List A) (k : A) → slice_get own document ≡ Some k → passes_on document (all ++ own ∷ []) ≡ passes_on document all ++ k ∷ []
passes_more {A} document all own k is =
    sym (flat_map_more (λ (l : List A). take 1 (drop document l)) [] all own) ∙ ap (λ (l : List A). flat_map (λ (x : List A). take 1 (drop document x)) all ++ l) (one_there own document k is)

pub none_joined : (shelves : List TableId) (fronts : List Front) → AreOnShelves shelves fronts → HaveJoined [] fronts fronts
none_joined shelves fronts on = record {
  count = refl;
  each = λ document o n o_is n_is.
      let s = beside fronts shelves document o on.count o_is in
      let first = on.each document s.0 o s.1 o_is in
      subst (λ (x : Front). HasJoined [] o x) (same_at fronts document o n o_is n_is) (joined_none o first.first first.is_pass);
}

pub one_joined : (all : List (List Knows)) (old mid new : List Front) (desks : List Desk) → HaveJoined all old mid → HaveJoinedDesks mid new desks → length desks ≡ length old
    → HaveJoined (all ++ passes_of desks ∷ []) old new
one_joined all old mid new desks have joins count = record {
  count = joins.count ∙ have.count;
  each = λ document o n o_is n_is.
      let m = beside old mid document o (sym have.count) o_is in
      let d = beside old desks document o (sym count) o_is in
      let pass : slice_get (passes_of desks) document ≡ Some d.0.pass.knows = slice_get-map (λ (x : Desk). x.pass.knows) desks document ∙ ap (option_map (λ (x : Desk). x.pass.knows)) d.1 in
      subst (λ (l : List Knows). HasJoined l o n) (sym (passes_more document all (passes_of desks) d.0.pass.knows pass))
      (joined_one (passes_on document all) o m.0 n d.0 (have.each document o m.0 o_is m.1) (joins.each document m.0 n d.0 m.1 n_is d.1));
}

-- the documents are still on their shelves
pub still_on_shelves : (shelves : List TableId) (all : List (List Knows)) (old new : List Front) → AreOnShelves shelves old → HaveJoined all old new → AreOnShelves shelves new
still_on_shelves shelves all old new on have = record {
  count = have.count ∙ on.count;
  each = λ document shelf n s_is n_is.
      let o = beside new old document n have.count n_is in
      let joined = have.each document o.0 n o.1 n_is in
      record {
        shelf_is = joined.shelf_is ∙ (on.each document shelf o.0 s_is o.1).shelf_is;
        is_pass = joined.is_pass;
        first = joined.takes.first;
      };
}

-- the document whose turn it is did not change before
pub first_at : (shelves : List TableId) (old mid : List Front) (done : List Desk) (shelf : TableId) (f : Front) → AreOnShelves shelves old → HaveJoinedDesks old mid done
    → slice_get shelves (length done) ≡ Some shelf → slice_get mid (length done) ≡ Some f → HasFirst shelf f
first_at shelves old mid done shelf f on joined s_is f_is = on.each (length done) shelf f s_is (sym (joined.rest (length done) (omega arith)) ∙ f_is)

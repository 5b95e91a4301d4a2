-- Clients before all steps.
use Rattle.std.proofs.Common.{◌≡◌, ◌∙◌, sym, ap, subst, ℕ, ◌+◌, ◌<◌, ◌≤◌, ⊎_elim, List, [], ◌∷◌, ◌++◌, length, slice_get, Some, vec_capacity, option_map, arith}
use Rattle.std.proofs.lemmas.List.{length-append}
use Rattle.std.proofs.lemmas.Option.{slice_get-map}
use Rattle.atomic_table.specs.Seated.{TableId}
use Rattle.ts_base.specs.Bytes.{Bytes}
use Rattle.ts_base.proofs.PlaceLemmas.{in_prefix, at_end, push_cases}
use Rattle.ts_table.specs.declared.view.ParseTable.{ParseTable}
use Rattle.ts_lexer.specs.Lexers.{IsLexerOf}
use Rattle.ts_docs.specs.declared.parsed.ParsedText.{ParsedText}
use Rattle.ts_script.specs.declared.plan.Plan.{Plan}
use Rattle.ts_script.specs.declared.plan.ScriptStep.{ScriptStep}
use Rattle.ts_replay.specs.Runs.{weight_of, edits_on}
use Rattle.ts_client.specs.declared.desk.Desk.{Desk}
use Rattle.ts_client.specs.Working.{IsFirstDesk}
use Rattle.ts_workers.specs.declared.front.Front.{Front}
use Rattle.ts_workers.specs.declared.worker.Worker.{Worker}
use Rattle.ts_workers.specs.Fronts.{IsFront, AreFronts, versions_of, Lends, HaveLent}
use Rattle.ts_workers.specs.Workers.{IsHired, AreHired}
use Rattle.ts_workers.proofs.FrontLemmas.{front_at}
use Rattle.ts_workers.proofs.ListLemmas.{same_thing, same_at, beside}

-- the version of a document among those of all
pub version_at : (fronts : List Front) (document : ℕ) (f : Front) (version : ParsedText) → slice_get fronts document ≡ Some f → slice_get (versions_of fronts) document ≡ Some version → version ≡ f.version
version_at fronts document f version f_is v_is =
    same_thing version f.version (sym v_is ∙ (slice_get-map (λ (x : Front). x.version) fronts document ∙ ap (option_map (λ (x : Front). x.version)) f_is))

-- a desk that was given by a document
first_desk : (table : ParseTable) (opening : Bytes) (shelf : TableId) (document : ℕ) (steps : List ScriptStep) (o n : Front) (d : Desk)
    → IsFront table opening shelf o → Lends (weight_of (edits_on document) steps) o n d → IsFirstDesk table shelf document steps d
first_desk table opening shelf document steps o n d is l = record {
  may = record {
    shelf_is = l.shelf_is ∙ is.shelf_is;
    is_pass = l.is_pass;
    opened = λ x x_is. ap (λ (v : ParsedText). v.table) (same_thing x o.version (sym x_is ∙ (l.split.opening.1 ∙ is.opens))) ∙ is.text.table_is;
    held = ap (λ (v : ParsedText). v.table) l.version_is ∙ is.text.table_is;
    there = (let e = l.number_is in omega (arith, e));
  };
  number_is = l.number_is;
  opens = l.split.opening.1 ∙ (is.opens ∙ ap (λ (v : ParsedText). Some v) (sym l.version_is));
  none_taken = l.split.taken.1;
  offers = (let e = l.split.moved.1 in omega (arith, e));
}

module _ (plan : Plan) (table : ParseTable) (openings : List Bytes) (shelves : List TableId) (clients : ℕ) (fronts : List Front)
    (are : AreFronts plan table openings shelves clients fronts) (steps : List ScriptStep) (new : List Front) (w : Worker)
    (lexer : IsLexerOf w.lexer table) (none : w.client.replies.items ≡ []) (room : length steps ≤ vec_capacity w.client.replies)
    (count : length w.client.desks.items ≡ length shelves) (lent : HaveLent steps fronts new w.client.desks.items) where
  lends_desk : (document : ℕ) (d : Desk) → slice_get w.client.desks.items document ≡ Some d
      → (o : Front) × (n : Front) × (slice_get fronts document ≡ Some o) × (slice_get new document ≡ Some n) × Lends (weight_of (edits_on document) steps) o n d
  lends_desk document d d_is =
      let o = beside w.client.desks.items fronts document d (count ∙ sym are.count) d_is in
      let n = beside w.client.desks.items new document d (count ∙ (sym are.count ∙ sym lent.count)) d_is in
      (o.0, n.0, o.1, n.1, lent.each document o.0 n.0 d o.1 n.1 d_is)

  pub is_hired : IsHired table shelves (versions_of new) steps w
  is_hired = record {
    may = record {
      lexer = lexer;
      begins = record {
        none_replied = none;
        room = room;
        count = count;
        each = λ document shelf d s_is d_is.
            let at = lends_desk document d d_is in
            let f = front_at plan table openings shelves clients fronts are document shelf at.0 s_is at.2 in
            first_desk table f.0 shelf document steps at.0 at.1 d f.1 at.4;
      };
    };
    lent = λ document version d v_is d_is.
        let at = lends_desk document d d_is in
        let shelf = beside fronts shelves document at.0 are.count at.2 in
        let f = (front_at plan table openings shelves clients fronts are document shelf.0 at.0 shelf.1 at.2).1 in
        let same : version ≡ at.1.version = version_at new document at.1 version at.3 v_is in
        record {
          other = at.4.split.rank.1;
          opens = at.4.split.opening.1 ∙ (f.opens ∙ ap (λ (v : ParsedText). Some v) (sym (same ∙ at.4.own_version)));
        };
  }

pub one_worker : (table : ParseTable) (shelves : List TableId) (old new : List ParsedText) (clients : List (List ScriptStep)) (workers : List Worker) (steps : List ScriptStep) (w : Worker)
    → AreHired table shelves old clients workers → new ≡ old → IsHired table shelves new steps w → AreHired table shelves new (clients ++ steps ∷ []) (workers ++ w ∷ [])
one_worker table shelves old new clients workers steps w are same is = record {
  count =
      let a : length (workers ++ w ∷ []) ≡ length workers + 1 = length-append workers (w ∷ []) in
      let b : length (clients ++ steps ∷ []) ≡ length clients + 1 = length-append clients (steps ∷ []) in
      let c = are.count in
      omega (arith, a, b, c);
  each = λ client ss x s_is x_is. ⊎_elim
      (λ v.
      let below : client < length clients = (let lt = v.0 in let c = are.count in omega (arith, lt, c)) in
      subst (λ (l : List ParsedText). IsHired table shelves l ss x) (sym same)
      (are.each client ss x (sym (in_prefix clients (steps ∷ []) client below) ∙ s_is) v.1))
      (λ v.
      let at : client ≡ length clients = v.0 ∙ are.count in
      let e : steps ≡ ss = same_at (clients ++ steps ∷ []) (length clients) steps ss (at_end clients steps) (subst (λ (k : ℕ). slice_get (clients ++ steps ∷ []) k ≡ Some ss) at s_is) in
      subst (λ (l : List ScriptStep). IsHired table shelves new l x) e (subst (λ (y : Worker). IsHired table shelves new steps y) v.1 is))
      (push_cases workers w client x x_is);
}

-- What is left of a run is what the law of joined work asks for.
use Rattle.std.proofs.Common.{◌≡◌, ◌∙◌, sym, ap, refl, subst, ℕ, zero, suc, ◌<◌, List, [], ◌∷◌, ◌++◌, length, flat_map, slice_get, Some, option_map, arith}
use Rattle.std.proofs.lemmas.List.{length-map}
use Rattle.std.proofs.lemmas.Option.{slice_get_within, slice_get-map}
use Rattle.atomic_table.specs.Seated.{TableId}
use Rattle.ts_base.specs.Bytes.{Bytes}
use Rattle.ts_table.specs.declared.view.ParseTable.{ParseTable}
use Rattle.ts_shelf.specs.declared.journal.Entry.{Entry}
use Rattle.ts_shelf.specs.declared.view.Knowledge.{Knowledge}
use Rattle.ts_shelf.specs.Latest.{latest_of}
use Rattle.ts_docs.specs.declared.parsed.ParsedText.{ParsedText}
use Rattle.ts_docs.specs.declared.parsed.Drafted.{Drafted}
use Rattle.ts_docs.specs.declared.parsed.Pages.{Pages}
use Rattle.ts_docs.specs.Versions.{IsTextOf, IsOfTable}
use Rattle.ts_script.specs.declared.plan.Plan.{Plan}
use Rattle.ts_script.specs.declared.plan.ScriptStep.{ScriptStep}
use Rattle.ts_replies.specs.declared.reply.ShownResult.{ShownResult}
use Rattle.ts_replies.specs.declared.reply.Reply.{Reply}
use Rattle.spec_history.specs.Histories.{History, version_text}
use Rattle.spec_history.specs.Books.{journal_of}
use Rattle.ts_shelf.specs.Passes.{IsPass}
use Rattle.spec_clients.specs.Joined.{EndsOrStops, AreOf, IsLeft, AreJoined, AreVersionsOf}
use Rattle.spec_clients.specs.Served.{IsServed}
use Rattle.spec_clients.specs.Seen.{version_seen}
use Rattle.ts_replay.specs.Replays.{MayReplay, AreBooks, history_of}
use Rattle.ts_client.specs.declared.desk.Desk.{Desk}
use Rattle.ts_client.specs.Working.{passes_of}
use Rattle.ts_workers.specs.declared.front.Front.{Front}
use Rattle.ts_workers.specs.declared.worker.Worker.{Worker}
use Rattle.ts_workers.specs.Fronts.{AreFronts, versions_of}
use Rattle.ts_workers.specs.Joins.{passes_on, TakesIn, HaveJoined, AreClosed}
use Rattle.ts_workers.specs.Workers.{AreAllDone, IsLeftDesk, all_passes, all_replies}
use Rattle.ts_workers.proofs.ListLemmas.{same_thing, nowhere, there_is, beside, one_there, take_zero}

abbrev Knows : Type 0
Knows = Knowledge ParsedText Drafted

-- ---- the passes of one document

-- each list reaches to the document
abbrev Reaches : {A : Type 0} → ℕ → List (List A) → Type 0
Reaches {A} document all = (client : ℕ) (own : List A) → slice_get all client ≡ Some own → document < length own

passes_of_one : {A : Type 0} (document : ℕ) (own : List A) (all : List (List A)) (k : A) → slice_get own document ≡ Some k → passes_on document (own ∷ all) ≡ k ∷ passes_on document all
passes_of_one {A} document own all k is = ap (λ (l : List A). l ++ passes_on document all) (one_there own document k is)

of_one_more : (document : ℕ) (own : List Knows) (all : List (List Knows)) (k : Knows) (passes : List Knows) → slice_get own document ≡ Some k → AreOf document all passes → AreOf document (own ∷ all) (k ∷ passes)
of_one_more document own all k passes is rest = record {
  count = (let e = rest.count in omega (arith, e));
  each = places;
}
  where
    places : (client : ℕ) (l : List Knows) → slice_get (own ∷ all) client ≡ Some l → slice_get l document ≡ slice_get (k ∷ passes) client
    places zero l l_is = ap (λ (x : List Knows). slice_get x document) (sym (same_thing own l l_is)) ∙ is
    places (suc client) l l_is = rest.each client l l_is

pub are_of : (document : ℕ) (all : List (List Knows)) → Reaches document all → AreOf document all (passes_on document all)
are_of document [] reaches = record { count = refl; each = λ client own is. absurd (nowhere client own is) }
are_of document (own ∷ all) reaches =
    let k = there_is own document (reaches 0 own refl) in
    let rest = are_of document all (λ client. reaches (suc client)) in
    subst (AreOf document (own ∷ all)) (sym (passes_of_one document own all k.0 k.1)) (of_one_more document own all k.0 (passes_on document all) k.1 rest)

-- ---- versions

-- the version after an entry is that of its item
version_after : (opening : ParsedText) (entries : List (Entry Drafted)) (number : ℕ) (e : Entry Drafted) → slice_get entries number ≡ Some e → version_seen opening entries (suc number) ≡ e.item.version
version_after opening [] number e is = absurd (nowhere number e is)
version_after opening (x ∷ entries) zero e is =
    ap (latest_of (λ (d : Drafted). d.version) x.item.version) (take_zero entries) ∙ ap (λ (y : Entry Drafted). y.item.version) (same_thing x e is)
version_after opening (x ∷ entries) (suc number) e is = version_after x.item.version entries number e is

pub are_books : (h : History) (table : ParseTable) (books : List Pages) → AreVersionsOf h table books
    → ((document : ℕ) (opening : Bytes) (b : Pages) → slice_get h.openings document ≡ Some opening → slice_get books document ≡ Some b → IsTextOf table 0 opening b.opening)
    → AreBooks h.plan table h.openings books
are_books h table books versions opened document opening b o_is b_is = record {
  first = opened document opening b o_is b_is;
  others = λ number e is.
      subst (λ (v : ParsedText). IsTextOf table (suc number) (version_text h.plan opening (journal_of b) (suc number)) v) (version_after b.opening b.entries number e is)
      (versions document opening b o_is b_is (suc number) (let lt : number < length b.entries = slice_get_within b.entries number e is in omega (arith, lt)));
}

-- ---- all together

module _ (Finds : Bytes → List ℕ → List ShownResult → Type 0) (plan : Plan) (table : ParseTable) (openings : List Bytes) (shelves : List TableId) (fronts left : List Front) (workers : List Worker)
    (may : MayReplay plan) (given : length openings ≡ length plan.documents)
    (are : AreFronts plan table openings shelves (length plan.clients) fronts)
    (done : AreAllDone Finds plan table.grammar shelves (versions_of fronts) workers)
    (joined : HaveJoined (all_passes workers) fronts left) where
  count_all : length (all_passes workers) ≡ length workers
  count_all = length-map workers (λ (w : Worker). passes_of w.client.desks.items)

  -- whose passes these are
  worker_of : (client : ℕ) (own : List Knows) → slice_get (all_passes workers) client ≡ Some own → (w : Worker) × (slice_get workers client ≡ Some w) × (own ≡ passes_of w.client.desks.items)
  worker_of client own is =
      let w = beside (all_passes workers) workers client own count_all is in (
        w.0,
        w.1,
        same_thing own (passes_of w.0.client.desks.items)
            (sym is ∙ (slice_get-map (λ (x : Worker). passes_of x.client.desks.items) workers client ∙ ap (option_map (λ (x : Worker). passes_of x.client.desks.items)) w.1)),
      )

  desks_reach : (client : ℕ) (w : Worker) → slice_get workers client ≡ Some w → length w.client.desks.items ≡ length shelves
  desks_reach client w w_is =
      let steps = beside workers plan.clients client w done.count w_is in
      (done.each client steps.0 w steps.1 w_is).count

  reaches : (document : ℕ) → document < length shelves → Reaches document (all_passes workers)
  reaches document lt client own is =
      let w = worker_of client own is in
      let a : length own ≡ length (passes_of w.0.client.desks.items) = ap length w.2 in
      let b : length (passes_of w.0.client.desks.items) ≡ length w.0.client.desks.items = length-map w.0.client.desks.items (λ (d : Desk). d.pass.knows) in
      let c = desks_reach client w.0 w.1 in
      omega (arith, lt, a, b, c)

  -- once all passes are joined, no other one is out
  pub alone : (document : ℕ) (f : Front) → slice_get left document ≡ Some f → f.pass.knows.out ≡ 0
  alone document f f_is =
      let was = beside left fronts document f joined.count f_is in
      let s = beside fronts shelves document was.0 are.count was.1 in
      let takes = (joined.each document was.0 f was.1 f_is).takes in
      let a = takes.out in
      let b = (are.lent document was.0 was.1).out in
      let c = (are_of document (all_passes workers) (reaches document (slice_get_within shelves document s.0 s.1))).count in
      let d = count_all in
      let e = done.count in
      omega (arith, a, b, c, d, e)

  module _ (books : List Pages) (closed : AreClosed left books) where
    -- a document that is left
    module _ (document : ℕ) (b : Pages) (b_is : slice_get books document ≡ Some b) where
      n : (x : Front) × (slice_get left document ≡ Some x)
      n = beside books left document b closed.count b_is

      o : (x : Front) × (slice_get fronts document ≡ Some x)
      o = beside left fronts document n.0 joined.count n.1

      shelf : (x : TableId) × (slice_get shelves document ≡ Some x)
      shelf = beside fronts shelves document o.0 are.count o.1

      version_is : slice_get (versions_of fronts) document ≡ Some o.0.version
      version_is = slice_get-map (λ (f : Front). f.version) fronts document ∙ ap (option_map (λ (f : Front). f.version)) o.1

      took : TakesIn (passes_on document (all_passes workers)) o.0.pass.knows n.0.pass.knows
      took = (joined.each document o.0 n.0 o.1 n.1).takes

      there : document < length shelves
      there = slice_get_within shelves document shelf.0 shelf.1

      are_passes : AreOf document (all_passes workers) (passes_on document (all_passes workers))
      are_passes = are_of document (all_passes workers) (reaches document there)

      -- the opening of the book is the version of the document
      opening_is : (opening : Bytes) → slice_get openings document ≡ Some opening → b.opening ≡ o.0.version
      opening_is opening o_is =
          let closes = closed.each document n.0 b n.1 b_is in
          let front = are.each document opening shelf.0 o.0 o_is shelf.1 o.1 in
          same_thing b.opening o.0.version (sym closes.opens ∙ (took.opening ∙ front.opens))

      text : (x : Bytes) × (slice_get openings document ≡ Some x)
      text = beside shelves openings document shelf.0 are.shelves_are shelf.1

      -- whose pass this is
      desk_of : (client : ℕ) (k : Knows) → slice_get (passes_on document (all_passes workers)) client ≡ Some k
          → (w : Worker) × (d : Desk) × (slice_get workers client ≡ Some w) × (slice_get w.client.desks.items document ≡ Some d) × (d.pass.knows ≡ k)
      desk_of client k k_is =
          let own = beside (passes_on document (all_passes workers)) (all_passes workers) client k are_passes.count k_is in
          let w = worker_of client own.0 own.1 in
          let d = there_is w.0.client.desks.items document (let c = desks_reach client w.0 w.1 in omega (arith, c, there)) in
          let at : slice_get (passes_of w.0.client.desks.items) document ≡ Some d.0.pass.knows = slice_get-map (λ (x : Desk). x.pass.knows) w.0.client.desks.items document ∙ ap (option_map (λ (x : Desk). x.pass.knows)) d.1 in
          let own_at : slice_get own.0 document ≡ Some d.0.pass.knows = ap (λ (l : List Knows). slice_get l document) w.2 ∙ at in
          (w.0, d.0, w.1, d.1, same_thing d.0.pass.knows k (sym own_at ∙ (are_passes.each client own.0 own.1 ∙ k_is)))

      left_desk : (client : ℕ) (steps : List ScriptStep) (w : Worker) (d : Desk) → slice_get plan.clients client ≡ Some steps → slice_get workers client ≡ Some w → slice_get w.client.desks.items document ≡ Some d
          → IsLeftDesk Finds plan table.grammar client document steps w.client.replies.items shelf.0 o.0.version d
      left_desk client steps w d s_is w_is d_is = (done.each client steps w s_is w_is).each document shelf.0 o.0.version d shelf.1 version_is d_is

      pub is_left : IsLeft Finds (history_of plan table.grammar openings books (all_replies workers)) document (all_passes workers) b
      is_left = record {
        passes = passes_on document (all_passes workers);
        passes_are = are_passes;
        in_hand = λ client k k_is.
            let at = desk_of client k k_is in
            let steps = beside workers plan.clients client at.0 done.count at.2 in
            subst (λ (x : Knows). IsPass IsOfTable x) at.4 (left_desk client steps.0 at.0 at.1 steps.1 at.2 at.3).is_pass;
        served = λ client steps replies k s_is r_is k_is.
            let at = desk_of client k k_is in
            let own : replies ≡ at.0.client.replies.items = same_thing replies at.0.client.replies.items
            (sym r_is ∙ (slice_get-map (λ (x : Worker). x.client.replies.items) workers client ∙ ap (option_map (λ (x : Worker). x.client.replies.items)) at.2)) in
            subst (λ (v : ParsedText). IsServed Finds plan table.grammar v client document steps replies k) (sym (opening_is text.0 text.1))
            (subst (λ (l : List Reply). IsServed Finds plan table.grammar o.0.version client document steps l k) (sym own)
            (subst (λ (x : Knows). IsServed Finds plan table.grammar o.0.version client document steps at.0.client.replies.items x) at.4
            (left_desk client steps at.0 at.1 s_is at.2 at.3).served));
        first = n.0.pass.knows;
        gathered = record {
          taken = took.taken ∙ ap (λ (l : List ℕ). l ++ flat_map (λ (k : Knows). k.taken) (passes_on document (all_passes workers))) (are.lent document o.0 o.1).none_taken;
          extends = took.extends;
          reached = took.reached;
        };
        is_pass = (joined.each document o.0 n.0 o.1 n.1).is_pass;
        closes = closed.each document n.0 b n.1 b_is;
      }

    opened : (document : ℕ) (opening : Bytes) (b : Pages) → slice_get openings document ≡ Some opening → slice_get books document ≡ Some b → IsTextOf table 0 opening b.opening
    opened document opening b o_is b_is =
        let f = (o document b b_is) in
        let s = (shelf document b b_is) in
        subst (IsTextOf table 0 opening) (sym (opening_is document b b_is opening o_is)) (are.each document opening s.0 f.0 o_is s.1 f.1).text

    pub are_joined : AreJoined Finds (history_of plan table.grammar openings books (all_replies workers)) table books (all_passes workers)
    are_joined = record {
      bounded = record { clients = may.clients; few = may.few; on = may.on };
      documents = closed.count ∙ (joined.count ∙ (are.count ∙ (are.shelves_are ∙ given)));
      openings = given;
      journals_are = refl;
      clients = length-map workers (λ (w : Worker). w.client.replies.items) ∙ done.count;
      passes = count_all ∙ done.count;
      opened = opened;
      left = is_left;
      ends = λ client steps replies own s_is r_is own_is.
          let w = worker_of client own own_is in
          let replies_are : replies ≡ w.0.client.replies.items = same_thing replies w.0.client.replies.items
          (sym r_is ∙ (slice_get-map (λ (x : Worker). x.client.replies.items) workers client ∙ ap (option_map (λ (x : Worker). x.client.replies.items)) w.1)) in
          subst (λ (l : List Knows). EndsOrStops (length plan.documents) steps replies l) (sym w.2)
          (subst (λ (l : List Reply). EndsOrStops (length plan.documents) steps l (passes_of w.0.client.desks.items)) (sym replies_are)
          (done.each client steps w.0 s_is w.1).ends);
    }

    pub have_versions : AreVersionsOf (history_of plan table.grammar openings books (all_replies workers)) table books → AreBooks plan table openings books
    have_versions versions = are_books (history_of plan table.grammar openings books (all_replies workers)) table books versions opened

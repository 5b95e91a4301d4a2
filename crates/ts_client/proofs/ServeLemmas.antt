-- What a step does is a next reply of a client that was served.
use Rattle.std.proofs.Common.{◌≡◌, ◌∙◌, sym, ap, refl, subst, ℕ, suc, ◌+◌, ◌<◌, ◌≤◌, nat_lt, if◌then◌else◌, true, false, ⊎_elim, List, [], ◌∷◌, ◌++◌, length, slice_get, Option, Some, None, arith}
use Rattle.std.proofs.lemmas.Bool.{le-ltb, lt-ltb}
use Rattle.std.proofs.lemmas.List.{take-append-le, take_all, map-append, length-map, length-append}
use Rattle.std.proofs.lemmas.List.Recursion.{is_count_by}
use Rattle.ts_base.proofs.PlaceLemmas.{push_cases, at_end}
use Rattle.ts_base.specs.Bytes.{Bytes}
use Rattle.ts_core.specs.declared.flat.FlatGrammar.{FlatGrammar}
use Rattle.ts_shelf.specs.declared.journal.Entry.{Entry}
use Rattle.ts_shelf.specs.declared.view.Knowledge.{Knowledge}
use Rattle.ts_shelf.specs.Entries.{occurrences, RisesWithin}
use Rattle.ts_shelf.specs.Latest.{latest_of}
use Rattle.ts_shelf.specs.Passes.{IsPass}
use Rattle.ts_shelf.specs.Calls.{Publishes}
use Rattle.ts_text.specs.Edit.{InRange, IsOver}
use Rattle.ts_text.specs.declared.edit.Edit.{Edit as TextEdit}
use Rattle.ts_docs.specs.declared.parsed.ParsedText.{ParsedText}
use Rattle.ts_docs.specs.declared.parsed.Drafted.{Drafted}
use Rattle.ts_docs.specs.Versions.{IsOfTable, Drafts}
use Rattle.ts_script.specs.declared.plan.Plan.{Plan}
use Rattle.ts_script.specs.declared.plan.ScriptStep.{ScriptStep}
use Rattle.ts_script.specs.declared.plan.ScriptStep.TheVariants as step
use Rattle.ts_replies.specs.declared.reply.ShownResult.{ShownResult}
use Rattle.ts_replies.specs.declared.reply.Reply.{Reply}
use Rattle.ts_replies.specs.declared.reply.Reply.TheVariants as reply
use Rattle.spec_history.specs.Replies.{document_of, version_of, turn_told, turns_of, most_looks}
use Rattle.spec_history.specs.Histories.{JournalEntry, version_text, entries_below}
use Rattle.spec_history.specs.Legal as legal
use Rattle.spec_history.specs.Legal.{IsRight, CanEdit, ShowsAt, IsShown, HasTree, HadAllLooks}
use Rattle.spec_history.specs.Books.{journal_entry_of}
use Rattle.spec_clients.specs.Seen.{journal_seen, version_seen}
use Rattle.spec_clients.specs.Served.{taken_until}
use Rattle.spec_clients.specs.Next.{TakesThese, TellsOneOf, IsNewEntry}
use Rattle.ts_client.specs.Looks.{IsLatest}
use Rattle.ts_client.specs.Nexts.{HoldsSeen, IsServedNext}
use Rattle.ts_client.specs.Steps.{Standing, standing, ServesStep, publishes, is_behind, out_of_range, too_large, looks, waits, gives_up, shows, has_no_memory, Serves, asks_nothing, finds, has_no_tree}
use Rattle.ts_client.specs.Turns.{TakesIdle, LooksUntil}
use Rattle.ts_client.proofs.SeenFirst.{entries_early}
use Rattle.ts_client.proofs.LookLemmas.{only_one, one_there, until_all, rises_le, same_idle}

-- ---- replies

-- the reply publishes nothing
abbrev PublishesNone : Reply → Type 0
PublishesNone (reply.Published turn version) = ⊥
PublishesNone (reply.Newer turn version) = Unit {0}
PublishesNone (reply.Look turn version) = Unit {0}
PublishesNone (reply.Await turn version) = Unit {0}
PublishesNone (reply.Late turn version) = Unit {0}
PublishesNone (reply.Range version) = Unit {0}
PublishesNone (reply.Size size version) = Unit {0}
PublishesNone (reply.Memory version) = Unit {0}
PublishesNone (reply.Tree outcome version) = Unit {0}
PublishesNone (reply.Results results version) = Unit {0}
PublishesNone (reply.Absent outcome version) = Unit {0}

none_told : (r : Reply) (turn : ℕ) → turn_told r ≡ None → turn_told r ≡ Some turn → ⊥
none_told r turn none some = let f : None ≡ Some turn = sym none ∙ some in cc

same_some : (a b : ℕ) → ◌≡◌ {A = Option ℕ} (Some a) (Some b) → a ≡ b
same_some a b h = cc

-- ---- entries

abbrev early : ℕ → List JournalEntry → ℕ
early turn [] = 0
early turn (e ∷ entries) = if nat_lt e.turn turn then 1 + early turn entries else early turn entries

is_early : (turn : ℕ) (entries : List JournalEntry) → early turn entries ≡ entries_below turn entries
is_early turn entries = is_count_by (early turn) (λ (e : JournalEntry). nat_lt e.turn turn) refl (λ e es. refl) entries

-- where the turns of the entries are below this one all are counted, and not one that has it
all_early : (low turn : ℕ) (seen : List (Entry Drafted)) → RisesWithin low turn seen → early turn (journal_seen seen) ≡ length seen
all_early low turn [] rises = refl
all_early low turn (e ∷ seen) rises =
    let first : nat_lt e.turn turn ≡ true = lt-ltb e.turn turn rises.1 in
    let rest : early turn (journal_seen seen) ≡ length seen = all_early (e.turn + 1) turn seen rises.2 in
    rw first (omega (arith, rest))

all_but_last : (low turn : ℕ) (seen : List (Entry Drafted)) (e : Entry Drafted) → e.turn ≡ turn → RisesWithin low turn seen → early turn (journal_seen (seen ++ e ∷ [])) ≡ length seen
all_but_last low turn [] e is rises = let not : nat_lt e.turn turn ≡ false = le-ltb e.turn turn (omega (arith, is)) in rw not refl
all_but_last low turn (x ∷ seen) e is rises =
    let first : nat_lt x.turn turn ≡ true = lt-ltb x.turn turn rises.1 in
    let rest : early turn (journal_seen (seen ++ e ∷ [])) ≡ length seen = all_but_last (x.turn + 1) turn seen e is rises.2 in
    rw first (omega (arith, rest))

pub count_all : (turn : ℕ) (seen : List (Entry Drafted)) → RisesWithin 0 turn seen → length seen ≡ entries_below turn (journal_seen seen)
count_all turn seen rises = sym (all_early 0 turn seen rises) ∙ is_early turn (journal_seen seen)

pub count_before : (turn : ℕ) (seen : List (Entry Drafted)) (e : Entry Drafted) → e.turn ≡ turn → RisesWithin 0 turn seen
    → length seen ≡ entries_below turn (journal_seen (seen ++ e ∷ []))
count_before turn seen e is rises = sym (all_but_last 0 turn seen e is rises) ∙ is_early turn (journal_seen (seen ++ e ∷ []))

latest_push : (opening : ParsedText) (seen : List (Entry Drafted)) (e : Entry Drafted) → latest_of (λ (d : Drafted). d.version) opening (seen ++ e ∷ []) ≡ e.item.version
latest_push opening [] e = refl
latest_push opening (x ∷ seen) e = latest_push x.item.version seen e

same_version : (opening : ParsedText) (seen rest : List (Entry Drafted)) (number : ℕ) → number ≤ length seen
    → version_seen opening (seen ++ rest) number ≡ version_seen opening seen number
same_version opening seen rest number le = ap (latest_of (λ (d : Drafted). d.version) opening) (take-append-le number seen rest le)

newest_seen : (opening : ParsedText) (seen : List (Entry Drafted)) (number : ℕ) → number ≡ length seen
    → latest_of (λ (d : Drafted). d.version) opening seen ≡ version_seen opening seen number
newest_seen opening seen number is = ap (latest_of (λ (d : Drafted). d.version) opening) (sym (take_all number seen (omega (arith, is))))

abbrev some_entry : ℕ → ℕ → ℕ → Option JournalEntry
some_entry turn client number = Some (record { turn = turn; client = client; step = number })

made_entry : (turn a b m n : ℕ) → a ≡ b → m ≡ n → ◌≡◌ {A = JournalEntry} (record { turn = turn; client = a; step = m }) (record { turn = turn; client = b; step = n })
made_entry turn a b m n x y = cc

rises_more : {I : Type 0} (low high more : ℕ) (es : List (Entry I)) → high ≤ more → RisesWithin low high es → RisesWithin low more es
rises_more low high more [] le rises = omega (arith, le, rises)
rises_more low high more (x ∷ es) le rises = (rises.0, (let lt = rises.1 in omega (arith, lt, le)), rises_more (x.turn + 1) high more es le rises.2)

-- ---- one step

module _ (Finds : Bytes → List ℕ → List ShownResult → Type 0) (plan : Plan) (g : FlatGrammar) (opening : ParsedText) (client number document before : ℕ) (old : Standing)
    (pass : IsPass IsOfTable old.knows) (number_is : old.number ≡ before) (there : old.number ≤ length old.knows.seen)
    (version_is : old.version ≡ version_seen opening old.knows.seen old.number) (table_is : old.version.table.grammar ≡ g) where
  abbrev IsNext : ScriptStep → Reply → Standing → Type 0
  IsNext s r new = IsServedNext Finds plan g opening client number document before old s r new

  -- the held version after more was seen
  held_in : (k : Knowledge ParsedText Drafted) (turns : List ℕ) → TakesIdle old.knows k turns → old.version ≡ version_seen opening k.seen old.number
  held_in k turns t = version_is ∙ sym (ap (λ (l : List (Entry Drafted)). version_seen opening l old.number) t.extends.1 ∙ same_version opening old.knows.seen t.extends.0 old.number there)

  longer : (k : Knowledge ParsedText Drafted) (turns : List ℕ) → TakesIdle old.knows k turns → length old.knows.seen ≤ length k.seen
  longer k turns t = let e : length k.seen ≡ length old.knows.seen + length t.extends.0 = ap length t.extends.1 ∙ length-append old.knows.seen t.extends.0 in omega (arith, e)

  -- the text that is edited or shown
  text_is : (seen : List (Entry Drafted)) → old.version ≡ version_seen opening seen old.number
      → (version_seen opening seen before).text ≡ version_text plan opening.text (journal_seen seen) before
      → old.version.text ≡ version_text plan opening.text (journal_seen seen) before
  text_is seen is text = ap (λ (v : ParsedText). v.text) is ∙ ap (λ (n : ℕ). (version_seen opening seen n).text) number_is ∙ text

  abbrev TextPremise : List (Entry Drafted) → Type 0
  TextPremise seen = (version_seen opening seen before).text ≡ version_text plan opening.text (journal_seen seen) before

  abbrev RightBy : List (Entry Drafted) → Option ℕ → ScriptStep → Reply → Type 0
  RightBy seen last s r = IsRight Finds plan g opening.text (journal_seen seen) before last s r

  -- a reply that tells no turn
  untold : (s : ScriptStep) (r : Reply) (k : Knowledge ParsedText Drafted) (turns : List ℕ) → TakesIdle old.knows k turns → length turns ≤ most_looks
      → turn_told r ≡ None → PublishesNone r → version_of r ≡ old.number
      → ((last : Option ℕ) → TextPremise k.seen → RightBy k.seen last s r)
      → IsNext s r (standing k old.number old.version)
  untold s r k turns t few none quiet version right = record {
    turns = turns;
    few = few;
    next = record {
      takes = record { taken = t.taken; extends = t.extends };
      told = λ turn told. absurd (none_told r turn none told);
      held = let l = longer k turns t in let h = there in omega (arith, version, l, h);
      entered = λ turn version is. absurd (subst PublishesNone is quiet);
      own = λ place e at here. absurd (t.idle place e at here);
      right = λ last early text. right last text;
    };
    number_now = sym version;
    version_now = held_in k turns t;
  }

  -- a reply that shows what was seen at a turn
  shown_at : (s : ScriptStep) (r : Reply) (k : Knowledge ParsedText Drafted) (turns : List ℕ) (turn number_now : ℕ) (version : ParsedText)
      → LooksUntil old.knows k turns turn number_now → length turns ≤ most_looks → k.opening ≡ Some opening → IsLatest k version
      → turn_told r ≡ Some turn → PublishesNone r → version_of r ≡ number_now → turns_of r ≤ length turns
      → ((last : Option ℕ) → ((t : ℕ) → last ≡ Some t → t < old.knows.turn) → ShowsAt (journal_seen k.seen) before turn number_now → TextPremise k.seen → RightBy k.seen last s r)
      → IsNext s r (standing k number_now version)
  shown_at s r k turns turn number_now version l few opens latest told_is quiet version_told accounts right = record {
    turns = turns;
    few = few;
    next = record {
      takes = record { taken = l.idle.taken; extends = l.idle.extends };
      told = λ u told. tells u (same_some turn u (sym told_is ∙ told));
      held = let n = l.number_is in omega (arith, version_told, n);
      entered = λ u version is. absurd (subst PublishesNone is quiet);
      own = λ place e at here. absurd (l.idle.idle place e at here);
      right = λ last early text. right last early
          (record { count = l.number_is ∙ count_all turn k.seen l.smaller; not_older = (let n = l.number_is in let h = there in let m = longer k turns l.idle in omega (arith, n, h, m, number_is)) }) text;
    };
    number_now = sym version_told;
    version_now = latest opening opens ∙ newest_seen opening k.seen number_now l.number_is;
  }
    where
      tells : (u : ℕ) → turn ≡ u → TellsOneOf old.knows turns r u
      tells u same = subst (TellsOneOf old.knows turns r) same (record {
        here = l.last;
        new = (l.idle.within turn l.last).0;
        accounts = λ t le.
            let all : taken_until t turns ≡ length turns = until_all t turns (λ x here. let w = (l.idle.within x here).1 in let n = l.next in omega (arith, w, n, le)) in
            omega (arith, all, accounts);
      })

  had_looks : (k : Knowledge ParsedText Drafted) (turns : List ℕ) (turn number_now : ℕ) → LooksUntil old.knows k turns turn number_now → length turns ≡ most_looks
      → (last : Option ℕ) → ((t : ℕ) → last ≡ Some t → t < old.knows.turn) → HadAllLooks last turn
  had_looks k turns turn number_now l all None early = let a = l.idle.apart in let n = l.next in omega (arith, a, n, all)
  had_looks k turns turn number_now l all (Some t) early = let e = early t refl in let a = l.idle.apart in let n = l.next in omega (arith, a, n, all, e)

  some_turn : (k : Knowledge ParsedText Drafted) (turns : List ℕ) (turn number_now : ℕ) → LooksUntil old.knows k turns turn number_now → 1 ≤ length turns
  some_turn k turns turn number_now l = by turns l.last
    where
      by : (xs : List ℕ) → 0 < occurrences turn xs → 1 ≤ length xs
      by [] here = omega (arith, here)
      by (x ∷ xs) here = omega arith

  -- an edit that is published
  module _ (at : ℕ) (edit : TextEdit) (d : Drafted) (k : Knowledge ParsedText Drafted) (turn version : ℕ) (on : at ≡ document)
      (can : CanEdit old.version.text edit) (drafts : Drafts old.version client number edit d) (p : Publishes old.knows k old.number d turn version) where
    abbrev made : Entry Drafted
    made = record { turn = turn; item = d }

    from : old.knows.turn ≤ turn
    from = rises_le old.knows.turn turn p.turned.extends.0 p.turned.extends.2

    version_next : version ≡ suc old.number
    version_next = let n = p.turned.event_is.done.number_is in omega (arith, n)

    old_version : old.version ≡ version_seen opening k.seen old.number
    old_version = version_is ∙ sym (ap (λ (l : List (Entry Drafted)). version_seen opening l old.number) p.adds ∙ same_version opening old.knows.seen (made ∷ []) old.number there)

    new_version : d.version ≡ version_seen opening k.seen version
    new_version = sym (latest_push opening old.knows.seen made) ∙ sym (ap (latest_of (λ (x : Drafted). x.version) opening) p.adds)
        ∙ newest_seen opening k.seen version
        (let e : length k.seen ≡ length old.knows.seen + 1 = ap length p.adds ∙ length-append old.knows.seen (made ∷ []) in let b = p.known in let v = version_next in omega (arith, e, b, v))

    published_takes : TakesThese old.knows k (turn ∷ [])
    published_takes = record {
      taken = p.turned.taken;
      extends = (made ∷ [], p.adds, (from, (let n = p.turned.next in omega (arith, n)), (let n = p.turned.next in omega (arith, n))));
    }

    published_told : (u : ℕ) → turn_told (reply.Published turn version) ≡ Some u → TellsOneOf old.knows (turn ∷ []) (reply.Published turn version) u
    published_told u told = subst (TellsOneOf old.knows (turn ∷ []) (reply.Published turn version)) (same_some turn u told) (record {
      here = one_there turn;
      new = from;
      accounts = λ t le. let all : taken_until t (turn ∷ []) ≡ 1 = until_all t (turn ∷ []) (λ x here. let e : x ≡ turn = only_one x turn here in omega (arith, e, le)) in omega (arith, all);
    })

    published_entered : (u v : ℕ) → reply.Published turn version ≡ reply.Published u v
        → (place : ℕ) × (v ≡ suc place) × (slice_get (journal_seen k.seen) place ≡ Some (record { turn = u; client = client; step = number }))
    published_entered u v is =
        let same_turn : turn ≡ u = same_some turn u (ap turn_told is) in
        let same_version : version ≡ v = ap version_of is in
        let next = version_next in
        let count : length (journal_seen old.knows.seen) ≡ old.number = length-map old.knows.seen journal_entry_of ∙ sym p.known in (
          old.number,
          omega (arith, same_version, next),
          ap (λ (l : List (Entry Drafted)). slice_get (journal_seen l) old.number) p.adds
              ∙ ap (λ (l : List JournalEntry). slice_get l old.number) (map-append journal_entry_of old.knows.seen (made ∷ []))
              ∙ ap (slice_get (journal_seen old.knows.seen ++ journal_entry_of made ∷ [])) (sym count)
              ∙ at_end (journal_seen old.knows.seen) (journal_entry_of made)
              ∙ ap (λ (j : JournalEntry). Some j) (made_entry turn d.client client d.step number drafts.client_is drafts.step_is)
              ∙ ap (λ (t : ℕ). some_entry t client number) same_turn,
        )

    published_own : (place : ℕ) (e : Entry Drafted) → slice_get k.seen place ≡ Some e → 0 < occurrences e.turn (turn ∷ [])
        → IsNewEntry client number document (step.Edit at edit) (reply.Published turn version) opening k.seen place e
    published_own place e is here = ⊎_elim
        (λ o.
        let same : e.turn ≡ turn = only_one e.turn turn here in
        let before_it : e.turn < old.knows.turn = entries_early 0 old.knows.turn old.knows.seen pass.rises place e o.1 in
        let f = from in
        absurd (let x : ⊥ = omega (arith, same, before_it, f) in x))
        (λ n. own_at place e n.0 n.1)
        (push_cases old.knows.seen made place e (ap (λ (l : List (Entry Drafted)). slice_get l place) (sym p.adds) ∙ is))
      where
        own_at : (place : ℕ) (e : Entry Drafted) → place ≡ length old.knows.seen → made ≡ e
            → IsNewEntry client number document (step.Edit at edit) (reply.Published turn version) opening k.seen place e
        own_at place e last same =
            let place_is : place ≡ old.number = last ∙ sym p.known in
            subst (λ (x : Entry Drafted). IsNewEntry client number document (step.Edit at edit) (reply.Published turn version) opening k.seen place x) same
            (record {
              edit = edit;
              number_is = drafts.step_is;
              step_is = ap (λ (n : ℕ). step.Edit n edit) on;
              reply_is = ap (reply.Published turn) (version_next ∙ ap (λ (n : ℕ). suc n) (sym place_is));
              drafts = subst (λ (v : ParsedText). Drafts v client number edit d) (old_version ∙ ap (version_seen opening k.seen) (sym place_is)) drafts;
            })

    published_next : IsNext (step.Edit at edit) (reply.Published turn version) (standing k version d.version)
    published_next = record {
      turns = turn ∷ [];
      few = omega arith;
      next = record {
        takes = published_takes;
        told = published_told;
        held = (let e : length k.seen ≡ length old.knows.seen + 1 = ap length p.adds ∙ length-append old.knows.seen (made ∷ []) in let b = p.known in let v = version_next in omega (arith, e, b, v));
        entered = published_entered;
        own = published_own;
        right = λ last early text. legal.published at edit turn version
            (subst (λ (t : Bytes). CanEdit t edit) (text_is k.seen old_version text) can)
            (sym number_is ∙ p.known
            ∙ count_before turn old.knows.seen made refl (rises_more 0 old.knows.turn turn old.knows.seen from pass.rises)
            ∙ ap (λ (l : List (Entry Drafted)). entries_below turn (journal_seen l)) (sym p.adds))
            (version_next ∙ ap (λ (n : ℕ). suc n) number_is);
      };
      number_now = refl;
      version_now = new_version;
    }

  -- each step is a next reply
  pub serves_next : (s : ScriptStep) (r : Reply) (new : Standing) → ServesStep client number old s r new → document_of s ≡ document
      → new.knows.opening ≡ Some opening → IsServedNext Finds plan g opening client number document before old s r new
  serves_next _ _ _ (publishes at edit d k turn version can drafts p) on opens = published_next at edit d k turn version on can drafts p
  serves_next _ _ _ (is_behind at edit k turn number_now version can l more latest) on opens =
      shown_at (step.Edit at edit) (reply.Newer turn number_now) k (turn ∷ []) turn number_now version l (omega arith) opens latest refl tt refl (omega arith)
      (λ last early shows_it text. legal.newer at edit turn number_now (subst (λ (t : Bytes). CanEdit t edit) (text_is k.seen (held_in k (turn ∷ []) l.idle) text) can) shows_it (omega (arith, more, number_is)))
  serves_next _ _ _ (out_of_range at edit out) on opens =
      untold (step.Edit at edit) (reply.Range old.number) old.knows [] (same_idle old.knows) (omega arith) refl tt refl
      (λ last text. legal.range at edit old.number (subst (λ (t : Bytes). InRange t edit → ⊥) (text_is old.knows.seen version_is text) out) number_is)
  serves_next _ _ _ (too_large at edit bytes over) on opens =
      untold (step.Edit at edit) (reply.Size bytes old.number) old.knows [] (same_idle old.knows) (omega arith) refl tt refl
      (λ last text. legal.size at edit bytes old.number (subst (λ (t : Bytes). IsOver t edit bytes) (text_is old.knows.seen version_is text) over) number_is)
  serves_next _ _ _ (looks at k turn number_now version l latest) on opens =
      shown_at (step.Look at) (reply.Look turn number_now) k (turn ∷ []) turn number_now version l (omega arith) opens latest refl tt refl (omega arith)
      (λ last early shows_it text. legal.look at turn number_now shows_it)
  serves_next _ _ _ (waits at wanted turns k turn number_now version l few reached latest) on opens =
      shown_at (step.Await at wanted) (reply.Await turn number_now) k turns turn number_now version l few opens latest refl tt refl (some_turn k turns turn number_now l)
      (λ last early shows_it text. legal.await at wanted turn number_now shows_it reached)
  serves_next _ _ _ (gives_up at wanted turns k turn number_now version l all less latest) on opens =
      shown_at (step.Await at wanted) (reply.Late turn number_now) k turns turn number_now version l (omega (arith, all)) opens latest refl tt refl (omega (arith, all))
      (λ last early shows_it text. legal.late at wanted turn number_now shows_it less (had_looks k turns turn number_now l all last early))
  serves_next _ _ _ (shows at outcome shown_it) on opens =
      untold (step.Tree at) (reply.Tree outcome old.number) old.knows [] (same_idle old.knows) (omega arith) refl tt refl
      (λ last text. legal.tree at old.number outcome (subst (λ (h : FlatGrammar). IsShown h (version_text plan opening.text (journal_seen old.knows.seen) before) outcome) table_is
      (subst (λ (t : Bytes). IsShown old.version.table.grammar t outcome) (text_is old.knows.seen version_is text) shown_it)) number_is)
  serves_next _ _ _ (has_no_memory s turns k t few) on opens =
      untold s (reply.Memory old.number) k turns t few refl tt refl (λ last text. legal.memory s old.number number_is)

  -- the text of the held version, by the grammar
  by_grammar : (P : FlatGrammar → Bytes → Type 0) → TextPremise old.knows.seen → P old.version.table.grammar old.version.text
      → P g (version_text plan opening.text (journal_seen old.knows.seen) before)
  by_grammar P text p =
      subst (λ (h : FlatGrammar). P h (version_text plan opening.text (journal_seen old.knows.seen) before)) table_is
      (subst (λ (t : Bytes). P old.version.table.grammar t) (text_is old.knows.seen version_is text) p)

  -- and so is each query
  pub asks_next : (s : ScriptStep) (r : Reply) (new : Standing) → Serves Finds client number old s r new → document_of s ≡ document
      → new.knows.opening ≡ Some opening → IsServedNext Finds plan g opening client number document before old s r new
  asks_next _ _ _ (asks_nothing s r new does) on opens = serves_next s r new does on opens
  asks_next _ _ _ (finds at queries results has found) on opens =
      untold (step.Query at queries) (reply.Results results old.number) old.knows [] (same_idle old.knows) (omega arith) refl tt refl
      (λ last text. legal.results at old.number queries results (by_grammar (λ h t. HasTree h t) text has)
      (by_grammar (λ h t. Finds t queries results) text found) number_is)
  asks_next _ _ _ (has_no_tree at queries outcome none shown_it) on opens =
      untold (step.Query at queries) (reply.Absent outcome old.number) old.knows [] (same_idle old.knows) (omega arith) refl tt refl
      (λ last text. legal.absent at old.number queries outcome (by_grammar (λ h t. HasTree h t → ⊥) text none)
      (by_grammar (λ h t. IsShown h t outcome) text shown_it) number_is)

pub held_serves_next : (Finds : Bytes → List ℕ → List ShownResult → Type 0) (plan : Plan) (g : FlatGrammar) (opening : ParsedText) (client number document before : ℕ)
    (old new : Standing) (s : ScriptStep) (r : Reply) → HoldsSeen g opening before old → Serves Finds client number old s r new → document_of s ≡ document
    → new.knows.opening ≡ Some opening → IsServedNext Finds plan g opening client number document before old s r new
held_serves_next Finds plan g opening client number document before old new s r h does on opens =
    asks_next Finds plan g opening client number document before old h.is_pass h.number_is h.there h.version_is h.grammar_is s r new does on opens

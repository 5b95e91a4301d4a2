-- A desk after a look, an offer, or a refusal of them.
use Rattle.std.proofs.Common.{◌≡◌, ◌∙◌, sym, ap, refl, subst, ℕ, ◌+◌, ◌<◌, ◌≤◌, nat_lt, Bool, true, false, ⊎_elim, List, [], ◌∷◌, ◌++◌, length, Option, Some, None, All, IfSome, IfNone, IsNone, arith}
use Rattle.std.proofs.lemmas.Bool.{ltb-true, ltb-false}
use Rattle.std.proofs.lemmas.List.{length-append}
use Rattle.std.proofs.lemmas.List.Elements.{All-head, All-tail}
use Rattle.atomic_table.specs.Seated.{TableId}
use Rattle.ts_table.specs.declared.view.ParseTable.{ParseTable}
use Rattle.ts_shelf.specs.declared.journal.Entry.{Entry}
use Rattle.ts_shelf.specs.declared.view.Knowledge.{Knowledge}
use Rattle.ts_shelf.specs.Entries.{most_turns}
use Rattle.ts_shelf.specs.Latest.{latest_of}
use Rattle.ts_shelf.specs.Passes.{Known, IsPass}
use Rattle.ts_shelf.specs.declared.shelf.Seen.{Seen}
use Rattle.ts_shelf.specs.Calls.{Looked, Publishes, IsNewer}
use Rattle.ts_text.specs.declared.edit.Edit.{Edit as TextEdit}
use Rattle.ts_docs.specs.declared.parsed.ParsedText.{ParsedText}
use Rattle.ts_docs.specs.declared.parsed.Drafted.{Drafted}
use Rattle.ts_docs.specs.Versions.{IsOfTable, Drafts}
use Rattle.ts_script.specs.declared.plan.ScriptStep.TheVariants as step
use Rattle.ts_replies.specs.declared.reply.Reply.{Reply}
use Rattle.ts_replies.specs.declared.reply.Reply.TheVariants as reply
use Rattle.spec_history.specs.Replies.{most_looks}
use Rattle.spec_history.specs.Legal.{CanEdit}
use Rattle.ts_client.specs.declared.desk.Desk.{Desk}
use Rattle.ts_client.specs.Looks.{IsLatest, SawLast, Watched}
use Rattle.ts_client.specs.Serving.{MayServe}
use Rattle.ts_client.specs.Steps.{Standing, standing, ServesStep, StopsEarly, publishes, is_behind, waits, gives_up}
use Rattle.ts_client.specs.Turns.{TakesIdle, SamePass}
use Rattle.ts_client.proofs.LookLemmas.{looked_once, newer_once, look_more}

pub same_self : {S I : Type 0} (k : Knowledge S I) → SamePass k k
same_self k = record { first = refl; out = refl; opening = refl }

-- ---- what may be done at a desk

pub may_now : (table : ParseTable) (shelf : TableId) (d : Desk) (p : Known ParsedText Drafted) (number : ℕ) (version : ParsedText)
    → MayServe table shelf d → p.shelf ≡ d.pass.shelf → IsPass IsOfTable p.knows → SamePass d.pass.knows p.knows
    → number ≤ length p.knows.seen → version.table ≡ table
    → MayServe table shelf (record { pass = p; number = number; version = version })
may_now table shelf d p number version may same_shelf pass same there of_table = record {
  shelf_is = same_shelf ∙ may.shelf_is;
  is_pass = pass;
  opened = λ opening is. may.opened opening (sym same.opening ∙ is);
  held = of_table;
  there = there;
}

seen_table : (table : ParseTable) (opening : ParsedText) (base : ParsedText) (seen : List (Entry Drafted)) → base.table ≡ table → opening.table ≡ table
    → All (λ (e : Entry Drafted). IsOfTable base e.item) seen → (latest_of (λ (d : Drafted). d.version) opening seen).table ≡ table
seen_table table opening base [] of_base of_opening fit = of_opening
seen_table table opening base (e ∷ seen) of_base of_opening fit =
    seen_table table e.item.version base seen of_base (All-head (λ (x : Entry Drafted). IsOfTable base x.item) e seen fit ∙ of_base)
    (All-tail (λ (x : Entry Drafted). IsOfTable base x.item) e seen fit)

-- the newest version is of the table
pub latest_table : (table : ParseTable) (shelf : TableId) (d : Desk) (k : Knowledge ParsedText Drafted) (version : ParsedText)
    → MayServe table shelf d → IsPass IsOfTable k → SamePass d.pass.knows k → IsLatest k version → version.table ≡ table
latest_table table shelf d k version may pass same latest =
    let of_opening : pass.opening.table ≡ table = may.opened pass.opening (sym same.opening ∙ pass.opens) in
    ap (λ (v : ParsedText). v.table) (latest pass.opening pass.opens) ∙ seen_table table pass.opening pass.opening k.seen of_opening of_opening pass.fit

-- after a look that showed so many entries
pub may_shown : (table : ParseTable) (shelf : TableId) (d : Desk) (p : Known ParsedText Drafted) (number : ℕ) (version : ParsedText)
    → p.shelf ≡ d.pass.shelf → IsPass IsOfTable p.knows → SamePass d.pass.knows p.knows
    → number ≡ length p.knows.seen → IsLatest p.knows version
    → MayServe table shelf d → MayServe table shelf (record { pass = p; number = number; version = version })
may_shown table shelf d p number version same_shelf pass same count latest may =
    may_now table shelf d p number version may same_shelf pass same (omega (arith, count)) (latest_table table shelf d p.knows version may pass same latest)

-- after turns that changed nothing
pub may_kept : (table : ParseTable) (shelf : TableId) (d : Desk) (p : Known ParsedText Drafted) (turns : List ℕ)
    → p.shelf ≡ d.pass.shelf → IsPass IsOfTable p.knows → SamePass d.pass.knows p.knows → TakesIdle d.pass.knows p.knows turns
    → MayServe table shelf d → MayServe table shelf (record { pass = p; number = d.number; version = d.version })
may_kept table shelf d p turns same_shelf pass same idle may =
    let longer : length p.knows.seen ≡ length d.pass.knows.seen + length idle.extends.0 = ap length idle.extends.1 ∙ length-append d.pass.knows.seen idle.extends.0 in
    let there = may.there in
    may_now table shelf d p d.number d.version may same_shelf pass same (omega (arith, longer, there)) may.held

-- after an offer that was published
pub may_published : (table : ParseTable) (shelf : TableId) (d : Desk) (p : Known ParsedText Drafted) (draft : Drafted) (turn number : ℕ) (version : ParsedText)
    → p.shelf ≡ d.pass.shelf → IsPass IsOfTable p.knows → SamePass d.pass.knows p.knows → Publishes d.pass.knows p.knows d.number draft turn number
    → version ≡ draft.version → MayServe table shelf d → draft.version.table ≡ table
    → MayServe table shelf (record { pass = p; number = number; version = version })
may_published table shelf d p draft turn number version same_shelf pass same pub_at is may of_table =
    let longer : length p.knows.seen ≡ length d.pass.knows.seen + 1 = ap length pub_at.adds ∙ length-append d.pass.knows.seen (record { turn = turn; item = draft } ∷ []) in
    let count = pub_at.turned.event_is.done.number_is in
    let known = pub_at.known in
    may_now table shelf d p number version may same_shelf pass same (omega (arith, longer, count, known)) (ap (λ (v : ParsedText). v.table) is ∙ of_table)

-- ---- replies

pub if_memory : (o : Option Reply) (version : ℕ) (P : Reply → Type 0) → IfSome o (λ (r : Reply). r ≡ reply.Memory version) → P (reply.Memory version) → IfSome o P
if_memory None version P is p = tt
if_memory (Some r) version P is p = subst P (sym is) p

pub if_spent : (o : Option Reply) (Q E : Type 0) → (IsNone o → E) → (E → Q) → IfNone o Q
if_spent None Q E spent so = so (spent refl)
if_spent (Some r) Q E spent so = tt

pub stops_at : (old new : Knowledge ParsedText Drafted) (number : ℕ) (version : ParsedText) (turns : List ℕ) → TakesIdle old new turns → length turns ≤ most_looks
    → new.reached ≡ most_turns → StopsEarly (standing old number version) (standing new number version)
stops_at old new number version turns idle few over = record { turns = turns; out = record { idle = idle; over = over }; few = few }

pub offer_publishes : (client number at : ℕ) (edit : TextEdit) (old : Standing) (k : Knowledge ParsedText Drafted) (draft : Drafted) (turn version : ℕ) (made : ParsedText)
    → made ≡ draft.version → Publishes old.knows k old.number draft turn version → Drafts old.version client number edit draft → CanEdit old.version.text edit
    → ServesStep client number old (step.Edit at edit) (reply.Published turn version) (standing k version made)
offer_publishes client number at edit old k draft turn version made is p drafts can =
    subst (λ (v : ParsedText). ServesStep client number old (step.Edit at edit) (reply.Published turn version) (standing k version v)) (sym is)
    (publishes at edit draft k turn version can drafts p)

pub offer_newer : (client number at : ℕ) (edit : TextEdit) (old : Standing) (k : Knowledge ParsedText Drafted) (draft : Drafted) (turn number_now : ℕ) (version : ParsedText)
    → IsNewer old.knows k old.number draft turn number_now → IsLatest k version → CanEdit old.version.text edit
    → ServesStep client number old (step.Edit at edit) (reply.Newer turn number_now) (standing k number_now version)
offer_newer client number at edit old k draft turn number_now version n latest can =
    is_behind at edit k turn number_now version can (newer_once old.knows k old.number draft turn number_now n) n.more latest

-- ---- waiting

pub watch_told : (client number at wanted : ℕ) (old : Standing) (k : Knowledge ParsedText Drafted) (seen : Seen ParsedText) (r : Reply) → Watched old.knows k wanted seen
    → (wanted ≤ seen.number → r ≡ reply.Await seen.turn seen.number) → (seen.number < wanted → r ≡ reply.Late seen.turn seen.number)
    → ServesStep client number old (step.Await at wanted) r (standing k seen.number seen.latest)
watch_told client number at wanted old k seen r w came gone = by (nat_lt seen.number wanted) refl
  where
    told_as : (x : Reply) → r ≡ x → ServesStep client number old (step.Await at wanted) x (standing k seen.number seen.latest)
        → ServesStep client number old (step.Await at wanted) r (standing k seen.number seen.latest)
    told_as x is p = subst (λ (y : Reply). ServesStep client number old (step.Await at wanted) y (standing k seen.number seen.latest)) (sym is) p

    all_looks : seen.number < wanted → length w.turns ≡ most_looks
    all_looks less = ⊎_elim (λ there. absurd (let f : ⊥ = omega (arith, there, less) in f)) (λ all. all) w.ends

    by : (b : Bool) → nat_lt seen.number wanted ≡ b → ServesStep client number old (step.Await at wanted) r (standing k seen.number seen.latest)
    by true is =
        let less = ltb-true seen.number wanted is in
        told_as (reply.Late seen.turn seen.number) (gone less) (gives_up at wanted w.turns k seen.turn seen.number seen.latest w.saw.looks (all_looks less) less w.saw.latest)
    by false is =
        let there = ltb-false seen.number wanted is in
        told_as (reply.Await seen.turn seen.number) (came there) (waits at wanted w.turns k seen.turn seen.number seen.latest w.saw.looks w.few there w.saw.latest)

-- ---- looks, one after the other

pub first_look : (old new : Knowledge ParsedText Drafted) (seen : Seen ParsedText) → Looked old new seen.turn seen.number → IsLatest new seen.latest → SawLast old new 1 seen
first_look old new seen l latest = record {
  turns = seen.turn ∷ [];
  saw = record { looks = looked_once old new seen.turn seen.number l; latest = latest };
  count = refl;
}

pub next_look : (a b c : Knowledge ParsedText Drafted) (looks : ℕ) (before seen : Seen ParsedText) → SawLast a b looks before → Looked b c seen.turn seen.number → IsLatest c seen.latest
    → SawLast a c (looks + 1) seen
next_look a b c looks before seen w l latest = record {
  turns = w.turns ++ seen.turn ∷ [];
  saw = record { looks = look_more a b c w.turns seen.turn seen.number w.saw.looks.idle (looked_once b c seen.turn seen.number l); latest = latest };
  count = length-append w.turns (seen.turn ∷ []) ∙ ap (λ (n : ℕ). n + 1) w.count;
}

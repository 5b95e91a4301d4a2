-- What entries told stays so when entries of later turns follow.
use Rattle.std.proofs.Common.{◌≡◌, ◌∙◌, sym, ap, refl, subst, ℕ, zero, suc, ◌+◌, ◌≤◌, nat_lt, if◌then◌else◌, false, List, [], ◌∷◌, ◌++◌, length, slice_get, Option, Some, None, arith}
use Rattle.std.proofs.lemmas.Bool.{le-ltb}
use Rattle.std.proofs.lemmas.List.{take-append-le, map-append, length-map}
use Rattle.std.proofs.lemmas.List.Recursion.{is_count_by}
use Rattle.ts_base.specs.Bytes.{Bytes}
use Rattle.ts_core.specs.declared.flat.FlatGrammar.{FlatGrammar}
use Rattle.ts_shelf.specs.declared.journal.Entry.{Entry}
use Rattle.ts_shelf.specs.Entries.{RisesWithin}
use Rattle.ts_shelf.specs.Latest.{latest_of}
use Rattle.ts_text.specs.Edit.{InRange, IsOver}
use Rattle.ts_docs.specs.declared.parsed.ParsedText.{ParsedText}
use Rattle.ts_docs.specs.declared.parsed.Drafted.{Drafted}
use Rattle.ts_script.specs.declared.plan.Plan.{Plan}
use Rattle.ts_script.specs.declared.plan.ScriptStep.{ScriptStep}
use Rattle.ts_replies.specs.declared.reply.ShownResult.{ShownResult}
use Rattle.ts_replies.specs.declared.reply.Reply.{Reply}
use Rattle.spec_history.specs.Replies.{turn_told}
use Rattle.spec_history.specs.Histories.{JournalEntry, version_text, text_after, text_after_all, entries_below}
use Rattle.spec_history.specs.Legal.{IsRight, CanEdit, ShowsAt, IsShown, HasTree, published, newer, range, size, look, await, late, tree, results, absent, memory}
use Rattle.spec_history.specs.Books.{journal_entry_of}
use Rattle.spec_clients.specs.Seen.{journal_seen, version_seen}
use Rattle.spec_clients.proofs.SeenFirst.{entries_late}

-- ---- versions and texts

pub same_version : (opening : ParsedText) (seen rest : List (Entry Drafted)) (number : ℕ) → number ≤ length seen
    → version_seen opening (seen ++ rest) number ≡ version_seen opening seen number
same_version opening seen rest number le = ap (latest_of (λ (d : Drafted). d.version) opening) (take-append-le number seen rest le)

pub journal_append : (seen rest : List (Entry Drafted)) → journal_seen (seen ++ rest) ≡ journal_seen seen ++ journal_seen rest
journal_append seen rest = map-append journal_entry_of seen rest

pub same_text : (plan : Plan) (opening : Bytes) (entries more : List JournalEntry) (number : ℕ) → number ≤ length entries
    → version_text plan opening (entries ++ more) number ≡ version_text plan opening entries number
same_text plan opening entries more number le = ap (text_after_all plan opening) (take-append-le number entries more le)

pub same_seen_text : (plan : Plan) (opening : Bytes) (seen rest : List (Entry Drafted)) (number : ℕ) → number ≤ length seen
    → version_text plan opening (journal_seen (seen ++ rest)) number ≡ version_text plan opening (journal_seen seen) number
same_seen_text plan opening seen rest number le =
    ap (λ (l : List JournalEntry). version_text plan opening l number) (journal_append seen rest)
    ∙ same_text plan opening (journal_seen seen) (journal_seen rest) number (let l : length (journal_seen seen) ≡ length seen = length-map seen journal_entry_of in omega (arith, l, le))

-- the text of the next version
pub next_text : (plan : Plan) (text : Bytes) (entries : List JournalEntry) (number : ℕ) (e : JournalEntry) → slice_get entries number ≡ Some e
    → version_text plan text entries (suc number) ≡ text_after plan (version_text plan text entries number) e
next_text plan text [] number e is = absurd (let f : None ≡ Some e = is in cc)
next_text plan text (x ∷ entries) zero e is = let same : x ≡ e = (let f : Some x ≡ Some e = is in cc) in ap (text_after plan text) same
next_text plan text (x ∷ entries) (suc number) e is = next_text plan (text_after plan text x) entries number e is

-- the next version
pub next_version : (opening : ParsedText) (seen : List (Entry Drafted)) (number : ℕ) (e : Entry Drafted) → slice_get seen number ≡ Some e
    → version_seen opening seen (suc number) ≡ e.item.version
next_version opening [] number e is = absurd (let f : None ≡ Some e = is in cc)
next_version opening (x ∷ seen) zero e is = let same : x ≡ e = (let f : Some x ≡ Some e = is in cc) in ap (λ (y : Entry Drafted). y.item.version) same
next_version opening (x ∷ seen) (suc number) e is = next_version x.item.version seen number e is

-- where the version of a number has the text of that number once more was seen, it has it before
pub text_before : (plan : Plan) (opening : ParsedText) (seen rest : List (Entry Drafted)) (number : ℕ) → number ≤ length seen
    → (version_seen opening (seen ++ rest) number).text ≡ version_text plan opening.text (journal_seen (seen ++ rest)) number
    → (version_seen opening seen number).text ≡ version_text plan opening.text (journal_seen seen) number
text_before plan opening seen rest number le is =
    sym (ap (λ (v : ParsedText). v.text) (same_version opening seen rest number le)) ∙ is ∙ same_seen_text plan opening.text seen rest number le

-- ---- how many entries there are

-- the same count, by recursion
abbrev early : ℕ → List JournalEntry → ℕ
early turn [] = 0
early turn (e ∷ entries) = if nat_lt e.turn turn then 1 + early turn entries else early turn entries

is_early : (turn : ℕ) (entries : List JournalEntry) → early turn entries ≡ entries_below turn entries
is_early turn entries = is_count_by (early turn) (λ (e : JournalEntry). nat_lt e.turn turn) refl (λ e es. refl) entries

-- all entries have turns from this one on
abbrev pub AreLate : ℕ → List JournalEntry → Type 0
AreLate turn entries = (place : ℕ) (e : JournalEntry) → slice_get entries place ≡ Some e → turn ≤ e.turn

none_early : (turn : ℕ) (more : List JournalEntry) → AreLate turn more → early turn more ≡ 0
none_early turn [] after = refl
none_early turn (e ∷ more) after =
    let first : nat_lt e.turn turn ≡ false = le-ltb e.turn turn (after 0 e refl) in
    rw first (none_early turn more (λ place. after (suc place)))

same_early : (turn : ℕ) (entries more : List JournalEntry) → AreLate turn more → early turn (entries ++ more) ≡ early turn entries
same_early turn [] more after = none_early turn more after
same_early turn (x ∷ entries) more after = ap (λ (n : ℕ). (if nat_lt x.turn turn then 1 + n else n)) (same_early turn entries more after)

-- entries of no smaller turns are not counted
pub same_below : (turn : ℕ) (entries more : List JournalEntry) → AreLate turn more → entries_below turn (entries ++ more) ≡ entries_below turn entries
same_below turn entries more after = sym (is_early turn (entries ++ more)) ∙ same_early turn entries more after ∙ is_early turn entries

-- an entry among the accepted edits that were seen
pub of_journal : (seen : List (Entry Drafted)) (place : ℕ) (x : JournalEntry) → slice_get (journal_seen seen) place ≡ Some x
    → (e : Entry Drafted) × (slice_get seen place ≡ Some e) × (journal_entry_of e ≡ x)
of_journal [] place x is = absurd (let f : None ≡ Some x = is in cc)
of_journal (e ∷ seen) zero x is = (e, refl, (let f : Some (journal_entry_of e) ≡ Some x = is in cc))
of_journal (e ∷ seen) (suc place) x is = of_journal seen place x is

pub to_journal : (seen : List (Entry Drafted)) (place : ℕ) (e : Entry Drafted) → slice_get seen place ≡ Some e
    → slice_get (journal_seen seen) place ≡ Some (journal_entry_of e)
to_journal [] place e is = absurd (let f : None ≡ Some e = is in cc)
to_journal (x ∷ seen) zero e is = let same : x ≡ e = (let f : Some x ≡ Some e = is in cc) in ap (λ (y : Entry Drafted). Some (journal_entry_of y)) same
to_journal (x ∷ seen) (suc place) e is = to_journal seen place e is

pub journal_late : (low high : ℕ) (rest : List (Entry Drafted)) → RisesWithin low high rest → AreLate low (journal_seen rest)
journal_late low high rest rises place x is =
    let e = of_journal rest place x is in
    subst (λ (y : JournalEntry). low ≤ y.turn) e.2 (entries_late low high rest rises place e.0 e.1)

-- ---- right replies

module _ (Finds : Bytes → List ℕ → List ShownResult → Type 0) (plan : Plan) (g : FlatGrammar) (opening : Bytes)
    (entries more : List JournalEntry) (before : ℕ) (last : Option ℕ) (there : before ≤ length entries) where
  same_held : version_text plan opening entries before ≡ version_text plan opening (entries ++ more) before
  same_held = sym (same_text plan opening entries more before there)

  same_count : (turn number : ℕ) → AreLate turn more → number ≡ entries_below turn entries → number ≡ entries_below turn (entries ++ more)
  same_count turn number after is = is ∙ sym (same_below turn entries more after)

  still_shows : (turn number : ℕ) → AreLate turn more → ShowsAt entries before turn number → ShowsAt (entries ++ more) before turn number
  still_shows turn number after shows = record { count = same_count turn number after shows.count; not_older = shows.not_older }

  -- a right reply stays right when entries of later turns are added
  pub still_right : (s : ScriptStep) (r : Reply) → ((turn : ℕ) → turn_told r ≡ Some turn → AreLate turn more)
      → IsRight Finds plan g opening entries before last s r
      → IsRight Finds plan g opening (entries ++ more) before last s r
  still_right _ _ le (published document edit turn version can count is) =
      published document edit turn version (subst (λ (t : Bytes). CanEdit t edit) same_held can) (same_count turn before (le turn refl) count) is
  still_right _ _ le (newer document edit turn version can shows above) =
      newer document edit turn version (subst (λ (t : Bytes). CanEdit t edit) same_held can) (still_shows turn version (le turn refl) shows) above
  still_right _ _ le (range document edit version out is) =
      range document edit version (subst (λ (t : Bytes). InRange t edit → ⊥) same_held out) is
  still_right _ _ le (size document edit bytes version over is) =
      size document edit bytes version (subst (λ (t : Bytes). IsOver t edit bytes) same_held over) is
  still_right _ _ le (look document turn version shows) = look document turn version (still_shows turn version (le turn refl) shows)
  still_right _ _ le (await document wanted turn version shows there_now) =
      await document wanted turn version (still_shows turn version (le turn refl) shows) there_now
  still_right _ _ le (late document wanted turn version shows less all) =
      late document wanted turn version (still_shows turn version (le turn refl) shows) less all
  still_right _ _ le (tree document version outcome shown is) =
      tree document version outcome (subst (λ (t : Bytes). IsShown g t outcome) same_held shown) is
  still_right _ _ le (results document version queries found has finds is) =
      results document version queries found (subst (λ (t : Bytes). HasTree g t) same_held has) (subst (λ (t : Bytes). Finds t queries found) same_held finds) is
  still_right _ _ le (absent document version queries outcome no_tree shown is) =
      absent document version queries outcome (subst (λ (t : Bytes). HasTree g t → ⊥) same_held no_tree) (subst (λ (t : Bytes). IsShown g t outcome) same_held shown) is
  still_right _ _ le (memory s version is) = memory s version is

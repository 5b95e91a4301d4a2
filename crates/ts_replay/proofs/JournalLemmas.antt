-- Entries of journals with one more entry at the end, and replies that were right before it.
use Rattle.std.proofs.Common.{◌≡◌, ◌∙◌, sym, ap, refl, subst, ℕ, suc, ◌+◌, ◌<◌, ◌≤◌, nat_lt, if◌then◌else◌, true, false, List, [], ◌∷◌, ◌++◌, length, slice_get, Option, Some, arith}
use Rattle.std.proofs.lemmas.Bool.{le-ltb, lt-ltb}
use Rattle.std.proofs.lemmas.List.{take-append-le, take_all}
use Rattle.std.proofs.lemmas.List.Recursion.{is_count_by}
use Rattle.ts_base.specs.Bytes.{Bytes}
use Rattle.ts_core.specs.declared.flat.FlatGrammar.{FlatGrammar}
use Rattle.ts_script.specs.declared.plan.Plan.{Plan}
use Rattle.ts_script.specs.declared.plan.ScriptStep.{ScriptStep}
use Rattle.ts_replies.specs.declared.reply.ShownResult.{ShownResult}
use Rattle.ts_replies.specs.declared.reply.Reply.{Reply}
use Rattle.spec_history.specs.Replies.{turn_told}
use Rattle.spec_history.specs.Histories.{JournalEntry, version_text, text_after, text_after_all, entries_below}
use Rattle.spec_history.specs.Legal.{IsRight, CanEdit, ShowsAt, IsShown, HasTree, published, newer, range, size, look, await, late, tree, results, absent, memory}
use Rattle.ts_text.specs.Edit.{InRange, IsOver}

-- ---- how many entries there are

-- the same count, by recursion
abbrev early : ℕ → List JournalEntry → ℕ
early turn [] = 0
early turn (e ∷ entries) = if nat_lt e.turn turn then 1 + early turn entries else early turn entries

is_early : (turn : ℕ) (entries : List JournalEntry) → early turn entries ≡ entries_below turn entries
is_early turn entries = is_count_by (early turn) (λ (e : JournalEntry). nat_lt e.turn turn) refl (λ e es. refl) entries

all_early : (turn : ℕ) (entries : List JournalEntry)
    → ((number : ℕ) (e : JournalEntry) → slice_get entries number ≡ Some e → e.turn < turn)
    → early turn entries ≡ length entries
all_early turn [] below = refl
all_early turn (e ∷ entries) below =
    let first : nat_lt e.turn turn ≡ true = lt-ltb e.turn turn (below 0 e refl) in
    let rest : early turn entries ≡ length entries = all_early turn entries (λ number. below (suc number)) in
    rw first (omega (arith, rest))

-- where all entries have turns below this one, all are counted
pub all_below : (turn : ℕ) (entries : List JournalEntry)
    → ((number : ℕ) (e : JournalEntry) → slice_get entries number ≡ Some e → e.turn < turn)
    → entries_below turn entries ≡ length entries
all_below turn entries below = sym (is_early turn entries) ∙ all_early turn entries below

not_early : (turn : ℕ) (entries : List JournalEntry) (e : JournalEntry) → turn ≤ e.turn
    → early turn (entries ++ e ∷ []) ≡ early turn entries
not_early turn [] e le = let first : nat_lt e.turn turn ≡ false = le-ltb e.turn turn le in rw first refl
not_early turn (x ∷ entries) e le = ap (λ (n : ℕ). (if nat_lt x.turn turn then 1 + n else n)) (not_early turn entries e le)

-- an entry of no smaller turn is not counted
pub not_below : (turn : ℕ) (entries : List JournalEntry) (e : JournalEntry) → turn ≤ e.turn
    → entries_below turn (entries ++ e ∷ []) ≡ entries_below turn entries
not_below turn entries e le = sym (is_early turn (entries ++ e ∷ [])) ∙ not_early turn entries e le ∙ is_early turn entries

-- ---- texts

pub same_text : (plan : Plan) (opening : Bytes) (entries : List JournalEntry) (e : JournalEntry) (number : ℕ)
    → number ≤ length entries
    → version_text plan opening (entries ++ e ∷ []) number ≡ version_text plan opening entries number
same_text plan opening entries e number le = ap (text_after_all plan opening) (take-append-le number entries (e ∷ []) le)

after_all_push : (plan : Plan) (text : Bytes) (entries : List JournalEntry) (e : JournalEntry)
    → text_after_all plan text (entries ++ e ∷ []) ≡ text_after plan (text_after_all plan text entries) e
after_all_push plan text [] e = refl
after_all_push plan text (x ∷ entries) e = after_all_push plan (text_after plan text x) entries e

length_push : (entries : List JournalEntry) (e : JournalEntry) → length (entries ++ e ∷ []) ≡ suc (length entries)
length_push [] e = refl
length_push (x ∷ entries) e = ap (λ (n : ℕ). suc n) (length_push entries e)

-- the text after the last entry
pub last_text : (plan : Plan) (opening : Bytes) (entries : List JournalEntry) (e : JournalEntry)
    → version_text plan opening (entries ++ e ∷ []) (suc (length entries))
    ≡ text_after plan (version_text plan opening entries (length entries)) e
last_text plan opening entries e =
    ap (text_after_all plan opening) (take_all (suc (length entries)) (entries ++ e ∷ []) (let l : length (entries ++ e ∷ []) ≡ suc (length entries) = length_push entries e in omega (arith, l)))
    ∙ after_all_push plan opening entries e
    ∙ ap (λ (l : List JournalEntry). text_after plan (text_after_all plan opening l) e) (sym (take_all (length entries) entries (omega arith)))

-- ---- right replies

module _ (plan : Plan) (g : FlatGrammar) (opening : Bytes) (entries : List JournalEntry) (e : JournalEntry)
    (before : ℕ) (last : Option ℕ) (there : before ≤ length entries) where
  same_held : version_text plan opening entries before ≡ version_text plan opening (entries ++ e ∷ []) before
  same_held = sym (same_text plan opening entries e before there)

  same_count : (turn number : ℕ) → turn ≤ e.turn → number ≡ entries_below turn entries → number ≡ entries_below turn (entries ++ e ∷ [])
  same_count turn number le is = is ∙ sym (not_below turn entries e le)

  still_shows : (turn number : ℕ) → turn ≤ e.turn → ShowsAt entries before turn number → ShowsAt (entries ++ e ∷ []) before turn number
  still_shows turn number le shows = record { count = same_count turn number le shows.count; not_older = shows.not_older }

  -- a right reply stays right when an entry of a later turn is added
  pub still_right : {Finds : Bytes → List ℕ → List ShownResult → Type 0} (s : ScriptStep) (r : Reply) → ((turn : ℕ) → turn_told r ≡ Some turn → turn ≤ e.turn)
      → IsRight Finds plan g opening entries before last s r
      → IsRight Finds plan g opening (entries ++ e ∷ []) before last s r
  still_right _ _ le (published document edit turn version can count is) =
      published document edit turn version (subst (λ (t : Bytes). CanEdit t edit) same_held can) (same_count turn before (le turn refl) count) is
  still_right _ _ le (newer document edit turn version can shows more) =
      newer document edit turn version (subst (λ (t : Bytes). CanEdit t edit) same_held can) (still_shows turn version (le turn refl) shows) more
  still_right _ _ le (range document edit version out is) =
      range document edit version (subst (λ (t : Bytes). InRange t edit → ⊥) same_held out) is
  still_right _ _ le (size document edit bytes version over is) =
      size document edit bytes version (subst (λ (t : Bytes). IsOver t edit bytes) same_held over) is
  still_right _ _ le (look document turn version shows) = look document turn version (still_shows turn version (le turn refl) shows)
  still_right _ _ le (await document wanted turn version shows there_now) =
      await document wanted turn version (still_shows turn version (le turn refl) shows) there_now
  still_right _ _ le (late document wanted turn version shows less all) =
      late document wanted turn version (still_shows turn version (le turn refl) shows) less all
  still_right _ _ le (tree document version outcome shown is) =
      tree document version outcome (subst (λ (t : Bytes). IsShown g t outcome) same_held shown) is
  still_right {Finds = Finds} _ _ le (results document version queries found has finds is) =
      results document version queries found (subst (λ (t : Bytes). HasTree g t) same_held has) (subst (λ (t : Bytes). Finds t queries found) same_held finds) is
  still_right _ _ le (absent document version queries outcome no_tree shown is) =
      absent document version queries outcome (subst (λ (t : Bytes). HasTree g t → ⊥) same_held no_tree) (subst (λ (t : Bytes). IsShown g t outcome) same_held shown) is
  still_right _ _ le (memory s version is) = memory s version is

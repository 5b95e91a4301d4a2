-- What the code of a step does, as rules.
use Rattle.std.proofs.Common.{◌≡◌, ◌∙◌, sym, ap, refl, subst, ℕ, suc, ◌+◌, ◌-◌, ◌<◌, ◌≤◌, List, [], ◌∷◌, ◌++◌, length, arith}
use Rattle.ts_base.specs.Bytes.{Bytes}
use Rattle.ts_shelf.specs.declared.journal.Entry.{Entry}
use Rattle.ts_shelf.specs.declared.shelf.Offered.TheVariants as offered
use Rattle.ts_text.specs.declared.edit.Edit.{Edit as TextEdit}
use Rattle.ts_docs.specs.declared.parsed.ParsedText.{ParsedText}
use Rattle.ts_docs.specs.declared.parsed.Drafted.{Drafted}
use Rattle.ts_docs.specs.declared.parsed.Pages.{Pages}
use Rattle.ts_docs.specs.declared.stepping.Event.TheVariants as event
use Rattle.ts_docs.specs.declared.stepping.Told.TheVariants as told
use Rattle.ts_docs.specs.Steps.{newest, IsBookTurn}
use Rattle.ts_docs.specs.Versions.{Drafts}
use Rattle.ts_docs.specs.Books.{pages}
use Rattle.ts_script.specs.declared.plan.ScriptStep.{ScriptStep}
use Rattle.ts_script.specs.declared.plan.ScriptStep.TheVariants as step
use Rattle.ts_replies.specs.declared.reply.ShownResult.{ShownResult}
use Rattle.ts_replies.specs.declared.reply.Reply.{Reply}
use Rattle.ts_replies.specs.declared.reply.Reply.TheVariants as reply
use Rattle.spec_history.specs.Replies.{most_looks}
use Rattle.spec_history.specs.Legal.{CanEdit, HasTree}
use Rattle.ts_replay.specs.Beginnings as begins
use Rattle.ts_replay.specs.Beginnings.{TellsHeld}
use Rattle.ts_replay.specs.Steps.{Place, place, after_looks, with_entry, DoesStep, publishes, is_behind, out_of_range, too_large, looks, waits, gives_up, shows, has_no_memory, Does, asks_nothing, finds, has_no_tree}

same_place : (t u : ℕ) (b c : Pages) (h i : ParsedText) → t ≡ u → b ≡ c → h ≡ i → place t b h ≡ place u c i
same_place t u b c h i x y z = cc

same_book : (b : Pages) (opening : ParsedText) (entries : List (Entry Drafted)) → b.opening ≡ opening → b.entries ≡ entries → pages opening entries b.room ≡ b
same_book b opening entries x y = sym (ap (λ (o : ParsedText). pages o b.entries b.room) x ∙ ap (λ (l : List (Entry Drafted)). pages opening l b.room) y)

module _ (client number : ℕ) where
  moved : (p : Place) (s : ScriptStep) (r x : Reply) (q y : Place) → r ≡ x → q ≡ y → DoesStep client number p s r q → DoesStep client number p s x y
  moved p s r x q y a b does = subst (λ (z : Reply). DoesStep client number p s z y) a (subst (λ (z : Place). DoesStep client number p s r z) b does)

  told_two : (f : ℕ → ℕ → Reply) (a b m n : ℕ) → a ≡ b → m ≡ n → f a m ≡ f b n
  told_two f a b m n x y = ap (λ (t : ℕ). f t m) x ∙ ap (f b) y

  -- there was no memory, and nothing changed
  pub no_memory : (p : Place) (s : ScriptStep) (version turn : ℕ) (book : Pages) (held : ParsedText)
      → version ≡ p.held.number → turn ≡ p.turn → book ≡ p.book → held ≡ p.held
      → DoesStep client number p s (reply.Memory version) (place turn book held)
  no_memory p s version turn book held v t b h =
      moved p s (reply.Memory p.held.number) (reply.Memory version) p (place turn book held) (ap reply.Memory (sym v)) (same_place p.turn turn p.book book p.held held (sym t) (sym b) (sym h)) (has_no_memory s)

  -- a look at the next turn
  pub looked : (p : Place) (at turn version now : ℕ) (book : Pages) (latest : ParsedText)
      → turn ≡ p.turn → version ≡ length p.book.entries → latest ≡ newest p.book → now ≡ p.turn → book ≡ p.book
      → DoesStep client number p (step.Look at) (reply.Look turn version) (place (now + 1) book latest)
  looked p at turn version now book latest t v l n b =
      moved p (step.Look at) (reply.Look p.turn (length p.book.entries)) (reply.Look turn version) (after_looks 1 p) (place (now + 1) book latest)
      (told_two reply.Look p.turn turn (length p.book.entries) version (sym t) (sym v))
      (same_place (p.turn + 1) (now + 1) p.book book (newest p.book) latest (ap (λ (k : ℕ). k + 1) (sym n)) (sym b) (sym l)) (looks at)

  pub waited : (p : Place) (at wanted turn version now : ℕ) (book : Pages) (latest : ParsedText)
      → turn ≡ p.turn → version ≡ length p.book.entries → latest ≡ newest p.book → now ≡ p.turn → book ≡ p.book → wanted ≤ version
      → DoesStep client number p (step.Await at wanted) (reply.Await turn version) (place (now + 1) book latest)
  waited p at wanted turn version now book latest t v l n b there =
      moved p (step.Await at wanted) (reply.Await p.turn (length p.book.entries)) (reply.Await turn version) (after_looks 1 p) (place (now + 1) book latest)
      (told_two reply.Await p.turn turn (length p.book.entries) version (sym t) (sym v))
      (same_place (p.turn + 1) (now + 1) p.book book (newest p.book) latest (ap (λ (k : ℕ). k + 1) (sym n)) (sym b) (sym l))
      (waits at wanted (omega (arith, there, v)))

  -- all looks show what the first one does
  pub gave_up : (p : Place) (at wanted version now : ℕ) (book : Pages) (latest : ParsedText)
      → version ≡ length p.book.entries → latest ≡ newest p.book → now ≡ p.turn → book ≡ p.book → version < wanted
      → DoesStep client number p (step.Await at wanted) (reply.Late (now + most_looks - 1) version) (place (now + most_looks) book latest)
  gave_up p at wanted version now book latest v l n b less =
      moved p (step.Await at wanted) (reply.Late (now + most_looks - 1) (length p.book.entries)) (reply.Late (now + most_looks - 1) version) (after_looks most_looks p) (place (now + most_looks) book latest)
      (ap (reply.Late (now + most_looks - 1)) (sym v))
      (same_place (p.turn + most_looks) (now + most_looks) p.book book (newest p.book) latest (ap (λ (k : ℕ). k + most_looks) (sym n)) (sym b) (sym l))
      (gives_up at wanted (now + most_looks - 1) (omega (arith, less, v)) (omega (arith, n)))

  -- an offer over the newest version
  pub published : (p : Place) (at base turn version : ℕ) (edit : TextEdit) (d : Drafted) (after : Pages) (made : ParsedText)
      → base ≡ p.held.number → made ≡ d.version
      → IsBookTurn p.turn p.book (event.Offer base d) (told.Offered (offered.Published turn version)) after
      → Drafts p.held client number edit d → CanEdit p.held.text edit
      → DoesStep client number p (step.Edit at edit) (reply.Published turn version) (place (p.turn + 1) after made)
  published p at base turn version edit d after made b m t drafts can =
      let had = t.turned.done.had in
      let is = t.turned.done.number_is in
      moved p (step.Edit at edit) (reply.Published p.turn (suc (length p.book.entries))) (reply.Published turn version)
      (place (p.turn + 1) (with_entry p.book p.turn d after.room) d.version) (place (p.turn + 1) after made)
      (told_two reply.Published p.turn turn (suc (length p.book.entries)) version (sym t.turn_is) (omega (arith, had, is)))
      (same_place (p.turn + 1) (p.turn + 1) (with_entry p.book p.turn d after.room) after d.version made refl
      (same_book after p.book.opening (p.book.entries ++ record { turn = p.turn; item = d } ∷ []) t.opening t.turned.done.adds) (sym m))
      (publishes at edit d after.room can (sym b ∙ sym had) drafts t.room)

  -- an offer over an older version
  pub overtaken : (p : Place) (at base turn version : ℕ) (edit : TextEdit) (d : Drafted) (after : Pages) (latest : ParsedText)
      → base ≡ p.held.number
      → IsBookTurn p.turn p.book (event.Offer base d) (told.Offered (offered.Newer turn version latest)) after
      → CanEdit p.held.text edit
      → DoesStep client number p (step.Edit at edit) (reply.Newer turn version) (place (p.turn + 1) after latest)
  overtaken p at base turn version edit d after latest b t can =
      let more = t.turned.done.more in
      let is = t.turned.done.number_is in
      let room = t.room in
      let same : p.book ≡ after = sym (whole p.book) ∙ ap (λ (n : ℕ). pages p.book.opening p.book.entries n) (omega (arith, room)) ∙ same_book after p.book.opening p.book.entries t.opening t.turned.done.same in
      moved p (step.Edit at edit) (reply.Newer p.turn (length p.book.entries)) (reply.Newer turn version)
      (after_looks 1 p) (place (p.turn + 1) after latest)
      (told_two reply.Newer p.turn turn (length p.book.entries) version (sym t.turn_is) (sym is))
      (same_place (p.turn + 1) (p.turn + 1) p.book after (newest p.book) latest refl same (ap newest same ∙ sym t.shows))
      (is_behind at edit can (omega (arith, more, b)))
    where
      whole : (b : Pages) → pages b.opening b.entries b.room ≡ b
      whole b = refl

-- ---- what takes no turn

module _ {Finds : Bytes → List ℕ → List ShownResult → Type 0} (client number : ℕ) where
  same_version : (p : Place) (s : ScriptStep) (answer : ℕ → Reply) (version : ℕ) (held : ParsedText) → p.held ≡ held → version ≡ held.number
      → Does Finds client number p s (answer p.held.number) p → Does Finds client number p s (answer version) p
  same_version p s answer version held same v does = subst (λ (n : ℕ). Does Finds client number p s (answer n) p) (ap (λ (x : ParsedText). x.number) same ∙ sym v) does

  pub found_there : (p : Place) (at version : ℕ) (queries : List ℕ) (held : ParsedText) (results : List ShownResult) → p.held ≡ held → version ≡ held.number
      → HasTree held.table.grammar held.text → Finds held.text queries results
      → Does Finds client number p (step.Query at queries) (reply.Results results version) p
  found_there p at version queries held results same v has is = same_version p (step.Query at queries) (reply.Results results) version held same v
      (finds at queries results (subst (λ (x : ParsedText). HasTree x.table.grammar x.text) (sym same) has) (subst (λ (x : ParsedText). Finds x.text queries results) (sym same) is))

  pub nothing_found : (p : Place) (s : ScriptStep) (version : ℕ) (held : ParsedText) → p.held ≡ held → version ≡ held.number
      → Does Finds client number p s (reply.Memory version) p
  nothing_found p s version held same v = same_version p s reply.Memory version held same v (asks_nothing s (reply.Memory p.held.number) p (has_no_memory s))

  -- a reply that took no turn
  told_held : (p : Place) (s : ScriptStep) (r : Reply) → TellsHeld p.held p.held.number s r → Does Finds client number p s r p
  told_held p _ _ (begins.out_of_range at edit out) = asks_nothing (step.Edit at edit) (reply.Range p.held.number) p (out_of_range at edit out)
  told_held p _ _ (begins.too_large at edit bytes over) = asks_nothing (step.Edit at edit) (reply.Size bytes p.held.number) p (too_large at edit bytes over)
  told_held p _ _ (begins.shows at outcome shown) = asks_nothing (step.Tree at) (reply.Tree outcome p.held.number) p (shows at outcome shown)
  told_held p _ _ (begins.has_no_tree at queries outcome none shown) = has_no_tree at queries outcome none shown
  told_held p _ _ (begins.has_no_memory s) = asks_nothing s (reply.Memory p.held.number) p (has_no_memory s)

  pub told_there : (p : Place) (s : ScriptStep) (r : Reply) (held : ParsedText) (version : ℕ) → held ≡ p.held → version ≡ held.number
      → TellsHeld held version s r → Does Finds client number p s r p
  told_there p s r held version same v tells = told_held p s r
      (subst (λ (n : ℕ). TellsHeld p.held n s r) (v ∙ ap (λ (x : ParsedText). x.number) same) (subst (λ (x : ParsedText). TellsHeld x version s r) same tells))

  -- what a step of another kind does
  pub does_step : (p : Place) (s x : ScriptStep) (r : Reply) (q : Place) → s ≡ x → DoesStep client number p x r q → Does Finds client number p s r q
  does_step p s x r q is does = subst (λ (y : ScriptStep). Does Finds client number p y r q) (sym is) (asks_nothing x r q does)

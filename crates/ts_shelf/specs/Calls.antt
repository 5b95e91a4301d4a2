-- What the calls of a shelf tell.
use Rattle.std.specs.Prelude.{◌≡◌, ℕ, ◌+◌, ◌<◌, ◌≤◌, ◌⊎◌, max, List, [], ◌∷◌, ◌++◌, length, Some, All}
use Rattle.ts_shelf.specs.declared.journal.Entry.{Entry}
use Rattle.ts_shelf.specs.declared.view.Knowledge.{Knowledge}
use Rattle.ts_shelf.specs.declared.shelf.Offered.{Offered}
use Rattle.ts_shelf.specs.declared.shelf.Offered.TheVariants.{Published, Newer}
use Rattle.ts_shelf.specs.Entries.{most_turns, occurrences, once_below, Extends}
use Rattle.ts_shelf.specs.Latest.{latest_of}
use Rattle.ts_shelf.specs.Passes.{IsFirst, IsOther}
use Rattle.ts_shelf.specs.Machine.{Event, look, offer, used_by, Response, shown, added, overtaken, IsTurn}

module _ {S I : Type 0} where
  -- the pass took this turn for an event
  pub record TakesTurn (old new : Knowledge S I) (turn : ℕ) (event : Event I)
      (response : Response) : Type 0 where
    -- the entries of all smaller turns: what the pass had seen, and then entries with turns from
    -- its old turn on
    pub before : List (Entry I)
    pub extends : Extends old.turn turn before old.seen
    -- the event is done on them, and the pass has then seen all entries that there are
    pub event_is : IsTurn turn before event response new.seen
    -- the turn is one of the shelf's
    pub few : turn < most_turns
    -- it is above all turns of the pass, and not below the number of turns that the pass knew to be
    -- over
    pub above : All (λ x. x < turn) old.taken
    pub late : old.reached ≤ turn
    -- it is now the last turn of the pass, and the last that it knows to be over
    pub taken : new.taken ≡ old.taken ++ turn ∷ []
    pub next : new.turn ≡ turn + 1
    pub reached : new.reached ≡ turn + 1
    -- an offer is used up
    pub offers : new.offers + used_by event ≡ old.offers
    -- the rest is as before
    pub rank : (new.first ≡ old.first) × (new.out ≡ old.out)
    pub opening : new.opening ≡ old.opening

  -- no turn was taken: nothing changed but the number of turns known to be over, which grew or
  -- stayed
  pub record TakesNoTurn (old new : Knowledge S I) : Type 0 where
    pub seen : new.seen ≡ old.seen
    pub taken : new.taken ≡ old.taken
    pub turn : new.turn ≡ old.turn
    pub reached : old.reached ≤ new.reached
    pub offers : new.offers ≡ old.offers
    pub rank : (new.first ≡ old.first) × (new.out ≡ old.out)
    pub opening : new.opening ≡ old.opening

  -- a look at this turn shows how many entries the pass has now seen
  pub record Looked (old new : Knowledge S I) (turn number : ℕ) : Type 0 where
    pub turned : TakesTurn old new turn look (shown number)
    pub number_is : number ≡ length new.seen

  -- an offer was published at this turn
  pub record Publishes (old new : Knowledge S I) (base : ℕ) (item : I)
      (turn number : ℕ) : Type 0 where
    pub turned : TakesTurn old new turn (offer base item) (added number)
    -- the pass had seen just `base` entries
    pub known : base ≡ length old.seen
    -- no entry came between, and this one alone was added
    pub adds : new.seen ≡ old.seen ++ record { turn = turn; item = item } ∷ []

  -- an offer met more entries than its base at this turn, which the pass has now seen
  pub record IsNewer (old new : Knowledge S I) (base : ℕ) (item : I)
      (turn number : ℕ) : Type 0 where
    pub turned : TakesTurn old new turn (offer base item) (overtaken number)
    pub number_is : number ≡ length new.seen
    pub more : base < number

  -- what was shown is the last item's that is now seen, or the opening
  abbrev pub ShowsLatest : (I → S) → Knowledge S I → S → Type 0
  ShowsLatest shown_of new latest =
      (opening : S) → new.opening ≡ Some opening → latest ≡ latest_of shown_of opening new.seen

  -- what an offer answers
  abbrev pub AnswersOffer : (I → S) → Knowledge S I → Knowledge S I → ℕ → I → Offered S → Type 0
  AnswersOffer shown_of old new base item (Published turn number) =
      Publishes old new base item turn number
  AnswersOffer shown_of old new base item (Newer turn number latest) =
      IsNewer old new base item turn number × ShowsLatest shown_of new latest

  -- the first pass gives so many of its offers to another, which has seen the same and took no turn
  pub record IsSplit (old new other : Knowledge S I) (offers : ℕ) : Type 0 where
    pub seen : (new.seen ≡ old.seen) × (other.seen ≡ old.seen)
    pub turn : (new.turn ≡ old.turn) × (other.turn ≡ old.turn)
    pub reached : (new.reached ≡ old.reached) × (other.reached ≡ old.reached)
    pub taken : (new.taken ≡ old.taken) × (other.taken ≡ [])
    pub moved : (new.offers + offers ≡ old.offers) × (other.offers ≡ offers)
    pub rank : IsFirst new × IsOther other
    pub out : (new.out ≡ old.out + 1) × (other.out ≡ 0)
    pub opening : (new.opening ≡ old.opening) × (other.opening ≡ old.opening)

  -- the first pass takes in another
  pub record IsJoin (old other new : Knowledge S I) : Type 0 where
    -- it has seen what the one of the greater turn had
    pub one : ((new.seen ≡ old.seen) × (new.turn ≡ old.turn))
        ⊎ ((new.seen ≡ other.seen) × (new.turn ≡ other.turn))
    -- of which both lists are prefixes; what comes after each has turns from that pass's turn on
    pub own : Extends old.turn new.turn new.seen old.seen
    pub others : Extends other.turn new.turn new.seen other.seen
    -- the greater of the two turns, and of the two numbers of turns known to be over
    pub turn : new.turn ≡ max old.turn other.turn
    pub reached : new.reached ≡ max old.reached other.reached
    -- the turns of both, which have none in common
    pub taken : new.taken ≡ old.taken ++ other.taken
    pub apart : (x : ℕ) → occurrences x new.taken ≤ 1
    -- the sum of the offers, and one pass fewer out
    pub offers : new.offers ≡ old.offers + other.offers
    pub out : new.out + 1 ≡ old.out
    pub rank : IsFirst new
    pub opening : new.opening ≡ old.opening

  -- the journal of a shelf that is closed with its only pass
  pub record Closes {J : Type 0} (entries : J → List (Entry I)) (room : J → ℕ) (opening : J → S)
      (k : Knowledge S I) (j : J) : Type 0 where
    -- its entries are just those that the pass has seen
    pub all_seen : entries j ≡ k.seen
    -- the pass took all turns of the shelf, each once; its turn is their number
    pub once : (x : ℕ) → occurrences x k.taken ≡ once_below x k.turn
    pub count : length k.taken ≡ k.turn
    -- it knew that so many are over
    pub reached : k.reached ≡ k.turn
    -- the opening is the shelf's
    pub opens : k.opening ≡ Some (opening j)
    -- there is room for the offers that were left
    pub room_left : k.offers ≤ room j

-- Which clients have a step left, and where the order stands then.
use Rattle.std.proofs.Common.{◌≡◌, ◌∙◌, sym, ap, refl, subst, ℕ, suc, ◌+◌, ◌-◌, ◌<◌, ◌≤◌, ⊎_elim, nat_lt, IsTrue, ◌↔◌, List, [], ◌∷◌, length, set, slice_get, Option, Some, None, option_map, unwrap_or, arith}
use Rattle.std.proofs.lemmas.Bool.{cases_lt, cases_eq, ltb-true, lt-ltb}
use Rattle.std.proofs.lemmas.Option.{slice_get_within, slice_get-map}
use Rattle.ts_base.proofs.PlaceLemmas.{set_here, set_there}
use Rattle.ts_base.specs.Bytes.{Bytes}
use Rattle.ts_table.specs.declared.view.ParseTable.{ParseTable}
use Rattle.ts_script.specs.declared.plan.Plan.{Plan}
use Rattle.ts_script.specs.declared.plan.ScriptStep.{ScriptStep}
use Rattle.ts_replies.specs.declared.reply.ShownResult.{ShownResult}
use Rattle.ts_replies.specs.declared.reply.Reply.{Reply}
use Rattle.ts_replay.specs.declared.document.Document.{Document}
use Rattle.ts_replay.specs.declared.document.Client.{Client}
use Rattle.ts_replay.specs.Runs.{HasNoStepLeft}
use Rattle.ts_replay.specs.Running.{replies_of, client_steps, over_in, CanRun, IsRunAt, HasNext, steps_left, AreDone, SameOthers, MayTakeStep, IsStepTaken}
use Rattle.ts_replay.proofs.OrderLemmas.{passed_over, first_is_next}
use Rattle.ts_replay.proofs.ReplyLemmas.{length_one_more}
use Rattle.ts_replay.proofs.RunningLemmas.{same_thing, may_take, runs_on, runs_in_order}

-- a client is done where it has no more steps than replies
pub is_done : (all : List (List ScriptStep)) (clients : List Client) → client_steps clients ≡ all → (k : ℕ)
    → ((c : Client) → slice_get clients k ≡ Some c → length c.steps.now ≤ length c.replies.items) → HasNoStepLeft all (replies_of clients) k
is_done all clients steps_are k done = by (slice_get clients k) refl
  where
    steps_at : (o : Option Client) → slice_get clients k ≡ o → slice_get all k ≡ option_map (λ (x : Client). x.steps.now) o
    steps_at o is = ap (λ (l : List (List ScriptStep)). slice_get l k) (sym steps_are) ∙ slice_get-map (λ (x : Client). x.steps.now) clients k ∙ ap (option_map (λ (x : Client). x.steps.now)) is

    by : (o : Option Client) → slice_get clients k ≡ o → HasNoStepLeft all (replies_of clients) k
    by None is = subst (λ (o : Option (List ScriptStep)). length (unwrap_or o []) ≤ length (unwrap_or (slice_get (replies_of clients) k) [])) (sym (steps_at None is)) (omega arith)
    by (Some c) is =
        let replies : slice_get (replies_of clients) k ≡ Some c.replies.items = slice_get-map (λ (x : Client). x.replies.items) clients k ∙ ap (option_map (λ (x : Client). x.replies.items)) is in
        subst (λ (o : Option (List ScriptStep)). length (unwrap_or o []) ≤ length (unwrap_or (slice_get (replies_of clients) k) [])) (sym (steps_at (Some c) is))
        (subst (λ (o : Option (List Reply)). length c.steps.now ≤ length (unwrap_or o [])) (sym replies) (done c is))

-- a client without a next step is done
none_next : (clients : List Client) (k : ℕ) → (HasNext clients k → ⊥) → (c : Client) → slice_get clients k ≡ Some c → length c.steps.now ≤ length c.replies.items
none_next clients k none c is = ⊎_elim
    (λ lt. absurd (none (record { who = c; is = is; more = lt })))
    (λ le. le)
    (cases_lt (length c.replies.items) (length c.steps.now))

module _ {Finds : Bytes → List ℕ → List ShownResult → Type 0} (plan : Plan) (openings : List Bytes) (order : List ℕ) (table : ParseTable) (documents : List Document) (clients : List Client) where
  pub next_passed : (rest : List ℕ) (c : ℕ) → (HasNext clients c → ⊥) → IsRunAt Finds plan openings order (c ∷ rest) table documents clients → IsRunAt Finds plan openings order rest table documents clients
  next_passed rest c none at = record {
    running = at.running;
    in_order = passed_over order plan.clients (replies_of clients) (over_in documents) rest c (is_done plan.clients clients at.running.steps_are c (none_next clients c none)) at.in_order;
  }

  pub first_next : (c : ℕ) → AreDone clients c → IsRunAt Finds plan openings order [] table documents clients → IsRunAt Finds plan openings order (c ∷ []) table documents clients
  first_next c done at = record {
    running = at.running;
    in_order = first_is_next order plan.clients (replies_of clients) (over_in documents) c (λ k lt. is_done plan.clients clients at.running.steps_are k (λ x is. done k x lt is)) at.in_order;
  }

  -- the next step of the next client was done
  pub one_taken : (rest : List ℕ) (c : ℕ) (client : Client) → slice_get clients c ≡ Some client → (after : List Document) (client_after : Client)
      → IsStepTaken Finds c documents client after client_after
      → IsRunAt Finds plan openings order (c ∷ rest) table documents clients → IsRunAt Finds plan openings order rest table after (set clients c client_after)
  one_taken rest c client is after client_after t at = record {
    running = runs_on plan table openings documents clients at.running c client is after client_after t;
    in_order = runs_in_order plan table openings documents clients at.running c client is after client_after t order rest at.in_order;
  }

-- ---- one client

pub done_still : (clients after : List Client) (c : ℕ) → AreDone clients c → SameOthers c clients after → AreDone after c
done_still clients after c done same k x lt is = done k x lt (sym (same k (λ e. let f : ⊥ = omega (arith, lt, e) in f)) ∙ is)

pub one_more_done : (clients : List Client) (c : ℕ) → AreDone clients c → (HasNext clients c → ⊥) → AreDone clients (c + 1)
one_more_done clients c done none k x lt is = ⊎_elim
    (λ e. none_next clients k (λ n. none (subst (HasNext clients) e n)) x is)
    (λ other. done k x (omega (arith, lt, other)) is)
    (cases_eq k c)

left_of : (clients : List Client) (c : ℕ) (client : Client) → slice_get clients c ≡ Some client → steps_left clients c ≡ length client.steps.now - length client.replies.items
left_of clients c client is = ap (λ (o : Option Client). unwrap_or (option_map (λ (x : Client). length x.steps.now - length x.replies.items) o) 0) is

-- after a step the client has fewer left
pub fewer_left : {Finds : Bytes → List ℕ → List ShownResult → Type 0} (documents after : List Document) (clients : List Client) (c : ℕ) (client client_after : Client) → slice_get clients c ≡ Some client
    → IsStepTaken Finds c documents client after client_after → steps_left (set clients c client_after) c < steps_left clients c
fewer_left documents after clients c client client_after is t =
    let a : steps_left clients c ≡ length client.steps.now - length client.replies.items = left_of clients c client is in
    let b : steps_left (set clients c client_after) c ≡ length client_after.steps.now - length client_after.replies.items
    = left_of (set clients c client_after) c client_after (set_here clients c client_after (slice_get_within clients c client is)) in
    let s : length client_after.steps.now ≡ length client.steps.now = ap length t.steps_are in
    let r : length client_after.replies.items ≡ suc (length client.replies.items) = ap length t.replies_are ∙ length_one_more client.replies.items t.reply in
    let lt : length client.replies.items < length client.steps.now = slice_get_within client.steps.now (length client.replies.items) t.step t.step_is in
    omega (arith, a, b, s, r, lt)

pub others_same : (clients : List Client) (c : ℕ) (client_after : Client) → SameOthers c clients (set clients c client_after)
others_same clients c client_after k other = set_there clients c k client_after other

-- the client that has a next step may take it
pub may_take_next : {Finds : Bytes → List ℕ → List ShownResult → Type 0} (count : ℕ) (table : ParseTable) (documents : List Document) (clients : List Client) (c : ℕ) (client : Client) → slice_get clients c ≡ Some client
    → CanRun Finds count table documents clients → HasNext clients c → MayTakeStep count table documents client
may_take_next count table documents clients c client is can next =
    let same : next.who ≡ client = same_thing next.who client (sym next.is ∙ is) in
    subst (λ (n : ℕ). MayTakeStep n table documents client) (sym can.2)
    (may_take can.0 table can.1 documents clients can.3 c client is (subst (λ (x : Client). length x.replies.items < length x.steps.now) same next.more))

pub can_still : {Finds : Bytes → List ℕ → List ShownResult → Type 0} (count : ℕ) (table : ParseTable) (documents after : List Document) (clients : List Client) (c : ℕ) (client client_after : Client) → slice_get clients c ≡ Some client
    → CanRun Finds count table documents clients → IsStepTaken Finds c documents client after client_after → CanRun Finds count table after (set clients c client_after)
can_still count table documents after clients c client client_after is can t =
    (can.0, can.1, can.2, runs_on can.0 table can.1 documents clients can.3 c client is after client_after t)

-- the test whether a client has a step left
pub next_told : (clients : List Client) (k : ℕ) (a b : Client) (n : ℕ) → slice_get clients k ≡ Some a → slice_get clients k ≡ Some b
    → n ≡ length a.replies.items → IsTrue (nat_lt n (length b.steps.now)) ↔ HasNext clients k
next_told clients k a b n a_is b_is n_is =
    let same : a ≡ b = same_thing a b (sym a_is ∙ b_is) in (
      λ yes. record {
        who = b;
        is = b_is;
        more = (let lt : n < length b.steps.now = ltb-true n (length b.steps.now) yes in let e : length a.replies.items ≡ length b.replies.items = ap (λ (x : Client). length x.replies.items) same in omega (arith, lt, e, n_is));
      },
      λ next.
          let who : next.who ≡ b = same_thing next.who b (sym next.is ∙ b_is) in
          let more : length b.replies.items < length b.steps.now = subst (λ (x : Client). length x.replies.items < length x.steps.now) who next.more in
          let e : length a.replies.items ≡ length b.replies.items = ap (λ (x : Client). length x.replies.items) same in
          lt-ltb n (length b.steps.now) (omega (arith, more, e, n_is)),
    )

pub none_told : (clients : List Client) (k n : ℕ) → n ≡ length clients → n ≤ k → IsTrue (nat_lt k n) ↔ HasNext clients k
none_told clients k n n_is le = (
  λ yes. absurd (let lt : k < n = ltb-true k n yes in omega (arith, lt, le)),
  λ next. absurd (let lt : k < length clients = slice_get_within clients k next.who next.is in omega (arith, lt, le, n_is)),
)

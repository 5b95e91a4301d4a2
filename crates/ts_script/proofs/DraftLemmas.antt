-- What a draft has after one more line, and how the lines of the rest go on.
use Rattle.std.proofs.Common.{◌≡◌, ◌∙◌, sym, ap, refl, subst, ℕ, zero, suc, ◌+◌, ◌<◌, ◌≤◌, max, List, [], ◌∷◌, ◌++◌, length, slice_get, Option, Some, None, Bool, true, false, if◌then◌else◌, nat_eq, ◌⊎◌, ⊎_elim, append-nil, arith}
use Rattle.std.proofs.lemmas.List.Concat.{flat_map-append}
use Rattle.std.proofs.Math.Nat.{max_comm, le-max_left, le-max_right}
use Rattle.std.proofs.lemmas.Bool.{cases_lt}
use Rattle.std.proofs.lemmas.List.{length_push}
use Rattle.ts_base.specs.Bytes.{Bytes}
use Rattle.ts_script.specs.declared.draft.Draft.{Draft}
use Rattle.ts_script.specs.declared.fault.SFault.{SFault}
use Rattle.ts_script.specs.declared.plan.Plan.{Plan}
use Rattle.ts_script.specs.declared.plan.ScriptStep.{ScriptStep}
use Rattle.ts_script.specs.declared.plan.Source.{Source}
use Rattle.ts_script.specs.declared.said.Action.{Action}
use Rattle.ts_script.specs.declared.said.Said.{Said}
use Rattle.ts_script.specs.declared.said.Said.TheVariants.{Text, Path, Load, Step}
use Rattle.ts_script.specs.Cut.{CutsAt}
use Rattle.ts_script.specs.Drafts.{IsDraft, IsAccepted, IsRefused, out_of_order, too_much, HaveSteps, Extends, with_step, Goes, GoesOn}
use Rattle.ts_script.specs.Lines.{AreLines, IsBlankLine}
use Rattle.ts_script.specs.Said.{Says}
use Rattle.ts_script.specs.Rules.{Asks, most_script_bytes, sources, queries, steps, steps_of, source_in, query_in, step_in, step_of, step_of_client, clients_in, client_count}
use Rattle.ts_script.specs.Script.{Follows, blank, says, FailsAt, no_order, over, Reads, at_end, next, FailsIn, here, later, IsScript, IsFault, in_line}
use Rattle.ts_script.proofs.LineLemmas.{some_list, cut_and_rest}

-- ---- lines

pub goes_on : (bytes rest line after : Bytes) (n : ℕ) (old new : Draft) → CutsAt rest line after → Goes bytes rest n old
    → ((before : List Said) → IsDraft before old → (end : List Said) × Follows before line end × IsDraft end new)
    → Goes bytes after (n + 1) new
goes_on bytes rest line after n old new cuts goes read =
    let step = read goes.said goes.is in
    let more : suc n ≡ n + 1 = omega arith in
    record {
      said = step.0;
      is = step.2;
      on = λ lines cut.
          let above = goes.on (line ∷ lines) (cut_and_rest rest line after lines cuts cut) in
          record {
            all = above.all;
            cut = above.cut;
            reads = λ end h. above.reads end (next step.1 h);
            fails = λ f h. above.fails f (later step.1 (subst (λ (k : ℕ). FailsIn step.0 k lines f) (sym more) h));
          };
    }

pub goes_wrong : (bytes rest line after : Bytes) (n : ℕ) (old : Draft) (f : SFault) → length bytes ≤ most_script_bytes
    → CutsAt rest line after → Goes bytes rest n old → ((before : List Said) → IsDraft before old → FailsAt before line n f)
    → IsFault bytes f
goes_wrong bytes rest line after n old f small cuts goes read =
    let lines = some_list after in
    let above = goes.on (line ∷ lines.0) (cut_and_rest rest line after lines.0 cuts lines.1) in
    in_line small above.cut (above.fails f (here (read goes.said goes.is)))

pub is_script : (bytes : Bytes) (n : ℕ) (draft : Draft) (plan : Plan) → length bytes ≤ most_script_bytes → Goes bytes [] n draft
    → ((said : List Said) → IsDraft said draft → Asks said plan) → IsScript bytes plan
is_script bytes n draft plan small goes asks =
    let above = goes.on [] refl in
    record {
      small = small;
      lines = above.all;
      cut = above.cut;
      said = goes.said;
      reads = above.reads goes.said at_end;
      asks = asks goes.said goes.is;
    }

-- ---- one line

pub accepted : (before : List Said) (line : Bytes) (said : Said) (old new : Draft) → (IsBlankLine line → ⊥) → Says line said → IsDraft before old
    → ((above : List Said) → IsDraft above old → IsAccepted above said × IsDraft (above ++ said ∷ []) new)
    → (end : List Said) × Follows before line end × IsDraft end new
accepted before line said old new filled read is judged =
    let all = judged before is in
    (before ++ said ∷ [], says filled read all.0.0 all.0.1, all.1)

pub refused : (before : List Said) (line : Bytes) (said : Said) (n : ℕ) (f : SFault) → (IsBlankLine line → ⊥) → Says line said
    → IsRefused before said n f → FailsAt before line n f
refused before line said n f filled read (out_of_order h) = no_order filled read h
refused before line said n f filled read (too_much o h) = over filled read o h

-- ---- clients in all

max_zero : (n : ℕ) → max n 0 ≡ n
max_zero n = grind arith

-- one more line in the middle of a maximum
swapped : (a b c : ℕ) → max a (max b c) ≡ max b (max a c)
swapped a b c = grind arith

pub counted_any : (before : List Said) (s : Said) → client_count (before ++ s ∷ []) ≡ max (clients_in s) (client_count before)
counted_any [] s = refl
counted_any (x ∷ xs) s = ap (max (clients_in x)) (counted_any xs s) ∙ swapped (clients_in x) (clients_in s) (client_count xs)

-- what is no step adds no client
counted : (before : List Said) (s : Said) → clients_in s ≡ 0 → client_count (before ++ s ∷ []) ≡ client_count before
counted before s none = counted_any before s ∙ ap (λ (n : ℕ). max n (client_count before)) none ∙ max_comm 0 (client_count before) ∙ max_zero (client_count before)

rest_le : (ss : List Said) (c : ℕ) → max 0 (client_count ss) ≤ c → client_count ss ≤ c
rest_le ss c le = let rest : client_count ss ≤ max 0 (client_count ss) = le-max_right 0 (client_count ss) in omega (arith, rest, le)

-- a client that is not there yet has no step
pub none_past : (before : List Said) (c : ℕ) → client_count before ≤ c → steps_of c before ≡ []
none_past [] c le = refl
none_past (Text t ∷ ss) c le = none_past ss c (rest_le ss c le)
none_past (Path t ∷ ss) c le = none_past ss c (rest_le ss c le)
none_past (Load t ∷ ss) c le = none_past ss c (rest_le ss c le)
none_past (Step client document act ∷ ss) c le =
    let first : suc client ≤ max (suc client) (client_count ss) = le-max_left (suc client) (client_count ss) in
    let rest : client_count ss ≤ max (suc client) (client_count ss) = le-max_right (suc client) (client_count ss) in
    let all : max (suc client) (client_count ss) ≤ c = le in
    let other : nat_eq c client ≡ false = not_same c client (omega (arith, first, all)) in
    rw other (none_past ss c (omega (arith, rest, all)))
  where
    not_same : (a b : ℕ) → suc b ≤ a → nat_eq a b ≡ false
    not_same a b lt = grind arith

-- ---- documents and queries

pub opened : (before : List Said) (said : Said) (source : Source) (old new : Draft) → IsDraft before old → source_in said ≡ source ∷ []
    → new ≡ record old { documents = old.documents ++ source ∷ [] } → IsDraft (before ++ said ∷ []) new
opened before (Text text) source old new is e same = subst (IsDraft (before ++ Text text ∷ [])) (sym same) (record {
  documents = ap (λ (x : List Source). x ++ source ∷ []) is.documents ∙ ap (λ (x : List Source). sources before ++ x) (sym e) ∙ sym (flat_map-append source_in before (Text text ∷ []));
  loaded = is.loaded ∙ sym (append-nil _) ∙ sym (flat_map-append query_in before (Text text ∷ []));
  clients = is.clients ∙ sym (counted before (Text text) refl);
  of_each = λ c lt. is.of_each c lt ∙ ap Some (sym (append-nil _) ∙ sym (flat_map-append (step_of_client c) before (Text text ∷ [])));
  count = is.count ∙ ap length (sym (append-nil _) ∙ sym (flat_map-append step_in before (Text text ∷ [])));
})
opened before (Path path) source old new is e same = subst (IsDraft (before ++ Path path ∷ [])) (sym same) (record {
  documents = ap (λ (x : List Source). x ++ source ∷ []) is.documents ∙ ap (λ (x : List Source). sources before ++ x) (sym e) ∙ sym (flat_map-append source_in before (Path path ∷ []));
  loaded = is.loaded ∙ sym (append-nil _) ∙ sym (flat_map-append query_in before (Path path ∷ []));
  clients = is.clients ∙ sym (counted before (Path path) refl);
  of_each = λ c lt. is.of_each c lt ∙ ap Some (sym (append-nil _) ∙ sym (flat_map-append (step_of_client c) before (Path path ∷ [])));
  count = is.count ∙ ap length (sym (append-nil _) ∙ sym (flat_map-append step_in before (Path path ∷ [])));
})
opened before (Load text) source old new is e same = absurd (let f : [] ≡ source ∷ [] = e in cc)
opened before (Step client document act) source old new is e same = absurd (let f : [] ≡ source ∷ [] = e in cc)

pub loaded_one : (before : List Said) (text : Bytes) (old new : Draft) → IsDraft before old
    → new ≡ record old { queries = old.queries ++ text ∷ [] } → IsDraft (before ++ Load text ∷ []) new
loaded_one before text old new is same = subst (IsDraft (before ++ Load text ∷ [])) (sym same) (record {
  documents = is.documents ∙ sym (append-nil _) ∙ sym (flat_map-append source_in before (Load text ∷ []));
  loaded = ap (λ (x : List Bytes). x ++ text ∷ []) is.loaded ∙ sym (flat_map-append query_in before (Load text ∷ []));
  clients = is.clients ∙ sym (counted before (Load text) refl);
  of_each = λ c lt. is.of_each c lt ∙ ap Some (sym (append-nil _) ∙ sym (flat_map-append (step_of_client c) before (Load text ∷ [])));
  count = is.count ∙ ap length (sym (append-nil _) ∙ sym (flat_map-append step_in before (Load text ∷ [])));
})

-- ---- clients

past : {X : Type 0} (xs : List X) (x : X) (k : ℕ) → k < length (xs ++ x ∷ []) → (k < length xs → ⊥) → slice_get (xs ++ x ∷ []) k ≡ Some x
past [] x zero lt no_more = refl
past [] x (suc k) lt no_more = absurd (let f : ⊥ = omega (arith, lt) in f)
past (y ∷ ys) x zero lt no_more = absurd (no_more (omega arith))
past (y ∷ ys) x (suc k) lt no_more = past ys x k (omega (arith, lt)) (λ less. no_more (omega (arith, less)))

kept : {X : Type 0} (xs : List X) (x : X) (k : ℕ) → k < length xs → slice_get (xs ++ x ∷ []) k ≡ slice_get xs k
kept [] x k lt = absurd (let f : ⊥ = omega (arith, lt) in f)
kept (y ∷ ys) x zero lt = refl
kept (y ∷ ys) x (suc k) lt = kept ys x k (omega (arith, lt))

pub extends_more : (old xs : List (List ScriptStep)) → length old ≤ length xs → Extends old xs → Extends old (xs ++ [] ∷ [])
extends_more old xs longer ext = λ steps_by have none c lt. ⊎_elim
    (λ less. kept xs [] c less ∙ ext steps_by have none c less)
    (λ ge. past xs [] c lt (λ less. let f : ⊥ = omega (arith, less, ge) in f) ∙ ap Some (sym (none c (omega (arith, longer, ge)))))
    (cases_lt c (length xs))

with_one : {X : Type 0} (b : Bool) (xs : List X) (x : X) → (if b then xs ++ x ∷ [] else xs) ≡ xs ++ ((if b then x ∷ [] else []) ++ [])
with_one true xs x = refl
with_one false xs x = sym (append-nil _)

-- a step more
pub stepped : (before : List Said) (client document : ℕ) (act : Action) (old new : Draft) → IsDraft before old
    → new.documents ≡ old.documents → new.queries ≡ old.queries → new.steps ≡ old.steps + 1
    → length new.clients.items ≡ max (suc client) (length old.clients.items)
    → HaveSteps (with_step client (step_of document act) (λ (c : ℕ). steps_of c before)) new.clients.items
    → IsDraft (before ++ Step client document act ∷ []) new
stepped before client document act old new is documents loaded count clients of_each = record {
  documents = documents ∙ is.documents ∙ sym (append-nil _) ∙ sym (flat_map-append source_in before (Step client document act ∷ []));
  loaded = loaded ∙ is.loaded ∙ sym (append-nil _) ∙ sym (flat_map-append query_in before (Step client document act ∷ []));
  clients = clients ∙ ap (max (suc client)) is.clients ∙ sym (counted_any before (Step client document act));
  of_each = λ c lt. of_each c lt ∙ ap Some (with_step_is c);
  count = count ∙ ap (λ (n : ℕ). n + 1) is.count ∙ sym (ap length (flat_map-append step_in before (Step client document act ∷ [])) ∙ length_push (steps before) (step_of document act));
}
  where
    with_step_is : (c : ℕ) → with_step client (step_of document act) (λ (k : ℕ). steps_of k before) c ≡ steps_of c (before ++ Step client document act ∷ [])
    with_step_is c = with_one (nat_eq c client) (steps_of c before) (step_of document act) ∙ sym (flat_map-append (step_of_client c) before (Step client document act ∷ []))

-- The order in which steps ran.
use Rattle.std.proofs.Common.{◌≡◌, ◌∙◌, sym, ap, refl, subst, ℕ, zero, suc, ◌<◌, ◌≤◌, List, [], ◌∷◌, ◌++◌, length, take, drop, flat_map, slice_get, Some, None, unwrap_or, append-nil, append_assoc, arith}
use Rattle.std.proofs.lemmas.List.{drop_all}
use Rattle.ts_script.specs.declared.plan.ScriptStep.{ScriptStep}
use Rattle.ts_replies.specs.declared.reply.Reply.{Reply}
use Rattle.spec_history.specs.Replies.{document_of}
use Rattle.spec_history.specs.Histories.{paired, all_paired}
use Rattle.spec_history.specs.Orders.{first_of, without_first, in_order, TakesTurns, Advances, TakeTurns}
use Rattle.ts_replay.specs.Runs.{with_own_reply, rest_of, AllBegin, RunsInOrder, HasNoStepLeft}

-- ---- lists that begin with others

begins_same : (replies : List (List Reply)) → AllBegin replies replies
begins_same [] = tt
begins_same (rs ∷ replies) = (([], sym (append-nil rs)), begins_same replies)

begins_next : (replies : List (List Reply)) (c : ℕ) (own : List Reply) (r : Reply) → slice_get replies c ≡ Some own
    → (all : List (List Reply)) → AllBegin (with_own_reply c own r replies) all → AllBegin replies all
begins_next [] c own r is all b = absurd (let f : None ≡ Some own = is in cc)
begins_next (rs ∷ replies) zero own r is [] b = absurd b
begins_next (rs ∷ replies) zero own r is (bs ∷ all) b =
    let same : rs ≡ own = (let f : Some rs ≡ Some own = is in cc) in
    ((r ∷ b.0.0, b.0.1 ∙ append_assoc own (r ∷ []) b.0.0 ∙ ap (λ (l : List Reply). l ++ r ∷ b.0.0) (sym same)), b.1)
begins_next (rs ∷ replies) (suc c) own r is [] b = absurd b
begins_next (rs ∷ replies) (suc c) own r is (bs ∷ all) b = (b.0, begins_next replies c own r is all b.1)

-- ---- the next step of a client

abbrev with_pair : ScriptStep → Reply → List (ScriptStep × Reply) → List (ScriptStep × Reply)
with_pair s r ps = (s, r) ∷ ps

drop_paired : (ss : List ScriptStep) (own : List Reply) (r : Reply) (more : List Reply) (s : ScriptStep) → slice_get ss (length own) ≡ Some s
    → drop (length own) (paired ss ((own ++ r ∷ []) ++ more)) ≡ (s, r) ∷ drop (length (own ++ r ∷ [])) (paired ss ((own ++ r ∷ []) ++ more))
drop_paired [] own r more s h = absurd (let f : None ≡ Some s = h in cc)
drop_paired (x ∷ ss) [] r more s h =
    let e : x ≡ s = (let f : Some x ≡ Some s = h in cc) in
    ap (λ (y : ScriptStep). with_pair y r (paired ss more)) e
drop_paired (x ∷ ss) (y ∷ own) r more s h = drop_paired ss own r more s h

at_first : (ss : List ScriptStep) (rs bs : List Reply) (steps : List ScriptStep) (own : List Reply) (r : Reply) (s : ScriptStep)
    → ss ≡ steps → rs ≡ own → (more : List Reply) → bs ≡ (own ++ r ∷ []) ++ more → slice_get steps (length own) ≡ Some s
    → drop (length rs) (paired ss bs) ≡ (s, r) ∷ drop (length (own ++ r ∷ [])) (paired ss bs)
at_first ss rs bs steps own r s a b more e h =
    let here : slice_get ss (length own) ≡ Some s = ap (λ (l : List ScriptStep). slice_get l (length own)) a ∙ h in
    ap (λ (l : List Reply). drop (length l) (paired ss bs)) b
    ∙ subst (λ (l : List Reply). drop (length own) (paired ss l) ≡ (s, r) ∷ drop (length (own ++ r ∷ [])) (paired ss l)) (sym e) (drop_paired ss own r more s here)

first_left : (clients : List (List ScriptStep)) (replies all : List (List Reply)) (c : ℕ) (steps : List ScriptStep) (own : List Reply) (s : ScriptStep) (r : Reply)
    → slice_get clients c ≡ Some steps → slice_get replies c ≡ Some own → slice_get steps (length own) ≡ Some s → AllBegin (with_own_reply c own r replies) all
    → first_of c (rest_of replies (all_paired clients all)) ≡ (s, r) ∷ []
first_left [] replies all c steps own s r a b h begins = absurd (let f : None ≡ Some steps = a in cc)
first_left (ss ∷ clients) [] all c steps own s r a b h begins = absurd (let f : None ≡ Some own = b in cc)
first_left (ss ∷ clients) (rs ∷ replies) [] zero steps own s r a b h begins = absurd begins
first_left (ss ∷ clients) (rs ∷ replies) [] (suc c) steps own s r a b h begins = absurd begins
first_left (ss ∷ clients) (rs ∷ replies) (bs ∷ all) zero steps own s r a b h begins =
    let x : ss ≡ steps = (let f : Some ss ≡ Some steps = a in cc) in
    let y : rs ≡ own = (let f : Some rs ≡ Some own = b in cc) in
    ap (take 1) (at_first ss rs bs steps own r s x y begins.0.0 begins.0.1 h)
first_left (ss ∷ clients) (rs ∷ replies) (bs ∷ all) (suc c) steps own s r a b h begins = first_left clients replies all c steps own s r a b h begins.1

others_left : (clients : List (List ScriptStep)) (replies all : List (List Reply)) (c : ℕ) (steps : List ScriptStep) (own : List Reply) (s : ScriptStep) (r : Reply)
    → slice_get clients c ≡ Some steps → slice_get replies c ≡ Some own → slice_get steps (length own) ≡ Some s → AllBegin (with_own_reply c own r replies) all
    → without_first c (rest_of replies (all_paired clients all)) ≡ rest_of (with_own_reply c own r replies) (all_paired clients all)
others_left [] replies all c steps own s r a b h begins = absurd (let f : None ≡ Some steps = a in cc)
others_left (ss ∷ clients) [] all c steps own s r a b h begins = absurd (let f : None ≡ Some own = b in cc)
others_left (ss ∷ clients) (rs ∷ replies) [] zero steps own s r a b h begins = absurd begins
others_left (ss ∷ clients) (rs ∷ replies) [] (suc c) steps own s r a b h begins = absurd begins
others_left (ss ∷ clients) (rs ∷ replies) (bs ∷ all) zero steps own s r a b h begins =
    let x : ss ≡ steps = (let f : Some ss ≡ Some steps = a in cc) in
    let y : rs ≡ own = (let f : Some rs ≡ Some own = b in cc) in
    ap (λ (ps : List (ScriptStep × Reply)). drop 1 ps ∷ rest_of replies (all_paired clients all)) (at_first ss rs bs steps own r s x y begins.0.0 begins.0.1 h)
others_left (ss ∷ clients) (rs ∷ replies) (bs ∷ all) (suc c) steps own s r a b h begins =
    ap (λ (l : List (List (ScriptStep × Reply))). drop (length rs) (paired ss bs) ∷ l) (others_left clients replies all c steps own s r a b h begins.1)

-- the next step of the next client has a reply
pub next_in_order : (order rest : List ℕ) (clients : List (List ScriptStep)) (replies : List (List Reply)) (over now : ℕ → ℕ)
    (c : ℕ) (steps : List ScriptStep) (own : List Reply) (s : ScriptStep) (r : Reply)
    → slice_get clients c ≡ Some steps → slice_get replies c ≡ Some own → slice_get steps (length own) ≡ Some s
    → TakesTurns (over (document_of s)) s r (now (document_of s))
    → ((d : ℕ) → (d ≡ document_of s → ⊥) → now d ≡ over d)
    → RunsInOrder order (c ∷ rest) clients replies over → RunsInOrder order rest clients (with_own_reply c own r replies) now
next_in_order order rest clients replies over now c steps own s r a b h takes others runs = λ all begins d turns.
    runs all (begins_next replies c own r b all begins) d
    (subst (λ (ps : List (ScriptStep × Reply)). TakeTurns d (over d) ps) (sym (order_is all begins)) (now d, advances d, turns))
  where
    order_is : (all : List (List Reply)) → AllBegin (with_own_reply c own r replies) all
        → in_order (c ∷ rest) (rest_of replies (all_paired clients all)) ≡ (s, r) ∷ in_order rest (rest_of (with_own_reply c own r replies) (all_paired clients all))
    order_is all begins =
        ap (λ (ps : List (ScriptStep × Reply)). ps ++ in_order rest (without_first c (rest_of replies (all_paired clients all)))) (first_left clients replies all c steps own s r a b h begins)
        ∙ ap (λ (l : List (List (ScriptStep × Reply))). (s, r) ∷ in_order rest l) (others_left clients replies all c steps own s r a b h begins)

    advances : (d : ℕ) → Advances d (over d) (s, r) (now d)
    advances d = record {
      on = λ e. subst (λ (i : ℕ). TakesTurns (over i) s r (now i)) e takes;
      off = λ other. others d (λ e. other (sym e));
    }

-- ---- clients without a step left

paired_short : (ss : List ScriptStep) (rs : List Reply) → length (paired ss rs) ≤ length ss
paired_short [] rs = omega arith
paired_short (s ∷ ss) [] = omega arith
paired_short (s ∷ ss) (r ∷ rs) = let h : length (paired ss rs) ≤ length ss = paired_short ss rs in omega (arith, h)

none_left : (clients : List (List ScriptStep)) (replies all : List (List Reply)) (k : ℕ) → HasNoStepLeft clients replies k
    → unwrap_or (slice_get (rest_of replies (all_paired clients all)) k) [] ≡ []
none_left clients [] all k done = refl
none_left [] (rs ∷ replies) all k done = refl
none_left (ss ∷ clients) (rs ∷ replies) [] k done = refl
none_left (ss ∷ clients) (rs ∷ replies) (bs ∷ all) zero done = drop_all (length rs) (paired ss bs) (let h : length (paired ss bs) ≤ length ss = paired_short ss bs in omega (arith, h, done))
none_left (ss ∷ clients) (rs ∷ replies) (bs ∷ all) (suc k) done = none_left clients replies all k done

module _ {A : Type 0} where
  none_without : (c : ℕ) (lists : List (List A)) → unwrap_or (slice_get lists c) [] ≡ [] → without_first c lists ≡ lists
  none_without c [] none = refl
  none_without zero (xs ∷ lists) none = ap (λ (l : List A). drop 1 l ∷ lists) none ∙ ap (λ (l : List A). l ∷ lists) (sym none)
  none_without (suc c) (xs ∷ lists) none = ap (λ (l : List (List A)). xs ∷ l) (none_without c lists none)

  -- a client without a step left is passed over
  passes : (rest : List ℕ) (c : ℕ) (lists : List (List A)) → unwrap_or (slice_get lists c) [] ≡ [] → in_order (c ∷ rest) lists ≡ in_order rest lists
  passes rest c lists none =
      ap (λ (l : List A). take 1 l ++ in_order rest (without_first c lists)) none ∙ ap (λ (l : List (List A)). in_order rest l) (none_without c lists none)

  one_more : (xs ys : List A) → take 1 xs ++ (drop 1 xs ++ ys) ≡ xs ++ ys
  one_more [] ys = refl
  one_more (x ∷ xs) ys = refl

  -- what is left begins with what the first client has left
  first_rest : (c : ℕ) (lists : List (List A)) → ((k : ℕ) → k < c → unwrap_or (slice_get lists k) [] ≡ []) → in_order (c ∷ []) lists ≡ in_order [] lists
  first_rest c [] none = refl
  first_rest zero (xs ∷ lists) none = one_more xs (flat_map (λ (l : List A). l) lists)
  first_rest (suc c) (xs ∷ lists) none =
      let first : xs ≡ [] = none 0 (omega arith) in
      ap (λ (l : List A). first_of c lists ++ (l ++ flat_map (λ (l : List A). l) (without_first c lists))) first
      ∙ first_rest c lists (λ k lt. none (suc k) (omega (arith, lt)))
      ∙ ap (λ (l : List A). l ++ flat_map (λ (l : List A). l) lists) (sym first)

  nothing_left : (lists : List (List A)) → ((k : ℕ) → unwrap_or (slice_get lists k) [] ≡ []) → in_order [] lists ≡ []
  nothing_left [] none = refl
  nothing_left (xs ∷ lists) none = ap (λ (l : List A). l ++ flat_map (λ (l : List A). l) lists) (none 0) ∙ nothing_left lists (λ k. none (suc k))

module _ (order : List ℕ) (clients : List (List ScriptStep)) (replies : List (List Reply)) (over : ℕ → ℕ) where
  pub passed_over : (rest : List ℕ) (c : ℕ) → HasNoStepLeft clients replies c → RunsInOrder order (c ∷ rest) clients replies over → RunsInOrder order rest clients replies over
  passed_over rest c done runs = λ all begins d turns.
      runs all begins d (subst (λ (ps : List (ScriptStep × Reply)). TakeTurns d (over d) ps)
      (sym (passes rest c (rest_of replies (all_paired clients all)) (none_left clients replies all c done))) turns)

  pub first_is_next : (c : ℕ) → ((k : ℕ) → k < c → HasNoStepLeft clients replies k) → RunsInOrder order [] clients replies over → RunsInOrder order (c ∷ []) clients replies over
  first_is_next c done runs = λ all begins d turns.
      runs all begins d (subst (λ (ps : List (ScriptStep × Reply)). TakeTurns d (over d) ps)
      (first_rest c (rest_of replies (all_paired clients all)) (λ k lt. none_left clients replies all k (done k lt))) turns)

  -- all steps have replies
  pub ends_in_order : ((k : ℕ) → HasNoStepLeft clients replies k) → RunsInOrder order [] clients replies over
      → (d : ℕ) → TakeTurns d 0 (in_order order (all_paired clients replies))
  ends_in_order done runs d =
      runs replies (begins_same replies) d
      (subst (λ (ps : List (ScriptStep × Reply)). TakeTurns d (over d) ps)
      (sym (nothing_left (rest_of replies (all_paired clients replies)) (λ k. none_left clients replies replies k (done k)))) tt)

-- ---- the beginning

all_left : (clients : List (List ScriptStep)) (replies all : List (List Reply)) → ((k : ℕ) (own : List Reply) → slice_get replies k ≡ Some own → own ≡ [])
    → AllBegin replies all → rest_of replies (all_paired clients all) ≡ all_paired clients all
all_left [] [] [] none begins = refl
all_left (ss ∷ clients) [] [] none begins = refl
all_left clients [] (bs ∷ all) none begins = absurd begins
all_left clients (rs ∷ replies) [] none begins = absurd begins
all_left [] (rs ∷ replies) (bs ∷ all) none begins = refl
all_left (ss ∷ clients) (rs ∷ replies) (bs ∷ all) none begins =
    ap (λ (l : List Reply). drop (length l) (paired ss bs) ∷ rest_of replies (all_paired clients all)) (none 0 rs refl)
    ∙ ap (λ (l : List (List (ScriptStep × Reply))). paired ss bs ∷ l) (all_left clients replies all (λ k. none (suc k)) begins.1)

pub starts_in_order : (order : List ℕ) (clients : List (List ScriptStep)) (replies : List (List Reply)) (over : ℕ → ℕ)
    → ((k : ℕ) (own : List Reply) → slice_get replies k ≡ Some own → own ≡ []) → ((d : ℕ) → over d ≡ 0)
    → RunsInOrder order order clients replies over
starts_in_order order clients replies over none zeros = λ all begins d turns.
    subst (λ (l : List (List (ScriptStep × Reply))). TakeTurns d 0 (in_order order l)) (all_left clients replies all none begins)
    (subst (λ (n : ℕ). TakeTurns d n (in_order order (rest_of replies (all_paired clients all)))) (zeros d) turns)

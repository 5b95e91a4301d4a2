-- Extras that stand are passed where they begin.
use Rattle.std.proofs.Common.{◌≡◌, ◌∙◌, sym, ap, subst, ℕ, ◌+◌, ⊎_elim, true, true≢false, List, [], ◌∷◌, ◌++◌, append_assoc, length, length-append, reverse, map, drop, arith}
use Rattle.std.proofs.lemmas.List.{drop-drop, reverse-append}
use Rattle.ts_base.specs.Bytes.{Bytes}
use Rattle.ts_core.specs.declared.flat.FlatGrammar.{FlatGrammar}
use Rattle.spec_trees.specs.declared.tree.Tree.{Tree}
use Rattle.spec_trees.specs.Trees.{is_extra_node, node_extent, span_of, all_spans, bare}
use Rattle.spec_runs.specs.Configurations.{Configuration, stack_symbols, pushed, AreExtras}
use Rattle.spec_forced.specs.Forced.{IsForced, Stands, StandInTurn}
use Rattle.spec_forced.specs.Laws.{ForcedLaws}
use Rattle.spec_forced.specs.OnlyRuns.{IsOnlyStep, OnlyRun, only_here, only_on}
use Rattle.spec_forced.proofs.ItemLemmas.{same_self}
use Rattle.spec_forced.proofs.SeenLemmas.{agree_self}
use Rattle.spec_forced.proofs.StackLemmas.{filling_extras, filling_none}
use Rattle.spec_forced.proofs.SpanLemmas.{bare_span}
use Rattle.spec_forced.proofs.FirstLemmas.{First, first}
use Rattle.spec_forced.proofs.OnlyLemmas.{pass_alone}

module _ (laws : ForcedLaws) (g : FlatGrammar) (text : Bytes) where
  heads : (a b : Tree) (xs ys : List Tree) → a ∷ xs ≡ b ∷ ys → a ≡ b
  heads a b xs ys e = cc

  first_of : (read : List ℕ) (rest : Bytes) (x : Tree) (e : ℕ) (f : IsForced g read rest x e) → First g read rest e (f.extras ++ bare x ∷ [])
  first_of read rest x e f =
      ⊎_elim (λ none. absurd (let n : length (f.extras ++ bare x ∷ []) ≡ 0 = ap (λ (l : List Tree). length l) none.0 in omega (arith, n, length-append f.extras (bare x ∷ [])))) (λ h. h)
      (first laws g read rest e (f.extras ++ bare x ∷ []) f.bytes f.run)

  pub passed_there : (c : Configuration) (x : Tree) (e : ℕ) → is_extra_node x ≡ true → Stands g (stack_symbols c.stack) (drop c.place text) x e → IsOnlyStep g text c (pushed c (bare x))
  passed_there c x e marked s =
      let read : List ℕ = stack_symbols c.stack in
      let rest : Bytes = drop c.place text in
      let f = s read rest (same_self g read) (agree_self e rest) in
      let h = first_of read rest x e f in
      let low : h.low ≡ bare x = heads h.low (bare x) h.others (reverse f.extras) (sym h.turned ∙ reverse-append f.extras (bare x ∷ [])) in
      let own : is_extra_node h.low ≡ true = ap is_extra_node low ∙ (laws.keeps x).extra ∙ marked in
      ⊎_elim (λ k. absurd (true≢false (sym own ∙ k.1)))
      (λ k.
      subst (λ (t : Tree). IsOnlyStep g text c (pushed c t)) (sym k.0 ∙ low)
      (pass_alone laws g text c h.symbol h.pad h.size (h.seen.0, h.seen.1, h.seen.2 rest (agree_self h.e rest)) k.1 k.2))
      h.kind

  pub passed_again : (xs below : List Tree) (place : ℕ) → AreExtras xs → StandInTurn g (stack_symbols below) (drop place text) xs → OnlyRun g text (record { stack = below; place = place }) (record { stack = reverse (map bare xs) ++ below; place = place + all_spans xs })
  passed_again [] below place extras s =
      subst (λ (n : ℕ). OnlyRun g text (record { stack = below; place = place }) (record { stack = below; place = n })) (let q : place ≡ place + 0 = omega arith in q) (only_here (record { stack = below; place = place }))
  passed_again (x ∷ xs) below place extras s =
      let c : Configuration = record { stack = below; place = place } in
      let d : Configuration = record { stack = bare x ∷ below; place = place + span_of x } in
      let step : IsOnlyStep g text c d = subst (λ (n : ℕ). IsOnlyStep g text c (record { stack = bare x ∷ below; place = place + n })) (bare_span laws x) (passed_there c x (node_extent x) extras.0 s.0) in
      let marked : is_extra_node (bare x) ≡ true = (laws.keeps x).extra ∙ extras.0 in
      let symbols : stack_symbols (x ∷ []) ++ stack_symbols below ≡ stack_symbols (bare x ∷ below) =
      ap (λ (l : List ℕ). l ++ stack_symbols below) (filling_none (x ∷ []) (extras.0, tt)) ∙ sym (filling_extras (bare x ∷ []) below (marked, tt)) in
      let more : StandInTurn g (stack_symbols (bare x ∷ below)) (drop (place + span_of x) text) xs =
      subst (λ (r : Bytes). StandInTurn g (stack_symbols (bare x ∷ below)) r xs) (drop-drop (span_of x) place text) (subst (λ (l : List ℕ). StandInTurn g l (drop (span_of x) (drop place text)) xs) symbols s.1) in
      let run = passed_again xs (bare x ∷ below) (place + span_of x) extras.1 more in
      let stack : reverse (map bare xs) ++ bare x ∷ below ≡ reverse (map bare (x ∷ xs)) ++ below =
      sym (append_assoc (reverse (map bare xs)) (bare x ∷ []) below) ∙ ap (λ (l : List Tree). l ++ below) (sym (reverse-append (bare x ∷ []) (map bare xs))) in
      only_on c d (record { stack = reverse (map bare (x ∷ xs)) ++ below; place = place + all_spans (x ∷ xs) }) step
      (subst (λ (l : List Tree). OnlyRun g text d (record { stack = l; place = place + all_spans (x ∷ xs) })) stack
      (subst (λ (n : ℕ). OnlyRun g text d (record { stack = reverse (map bare xs) ++ bare x ∷ below; place = n })) (let q : place + span_of x + all_spans xs ≡ place + all_spans (x ∷ xs) = omega arith in q) run))

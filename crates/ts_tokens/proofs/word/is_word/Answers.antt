use Rattle.std.proofs.Common.{◌≡◌, ◌∙◌, sym, subst, ℕ, List}
use Rattle.std.specs.Str.{chars}
use Rattle.std.proofs.lemmas.Iterator.{YieldsList-from_chars}
use Rattle.std.proofs.lemmas.Iterator.Consumers.{YieldsList-end}
use Rattle.ts_automata.specs.Walks.{HasCome}
use Rattle.ts_tokens.proofs.TextLemmas.{map_same, word_ends}
use Rattle.ts_tokens.proofs.word.is_word.Goals as goal

pub loop-c-init : goal.loop-c-init
loop-c-init c = (c.begin.ensures.room, λ size. c.begin.ensures.stands size)

pub loop-c-preserved : goal.loop-c-preserved
loop-c-preserved c = (
  c.step.ensures.room ∙ c.loop-c.invariant.0,
  λ size. c.step.ensures.stands c.loop-c.yielded (c.loop-c.invariant.0 ∙ size) (c.loop-c.invariant.1 size),
)

pub returns : goal.returns
returns c =
    let a = c.args.automaton.now in
    let t = YieldsList-end (YieldsList-from_chars c.args.text.now c.utf8.text cc) c.loop-c.yielded _ c.loop-c.yielded_by _ _ c.in-None.is c.next.ensures.steps in
    let all : c.loop-c.yielded ≡ chars c.args.text.now = sym (map_same c.loop-c.yielded) ∙ t.0 in
    let ends = rw c.as_slice.ensures.value at c.has_end.ensures in
    record {
      room = c.loop-c.invariant.0;
      word = λ p made size.
          let come : HasCome a (chars c.args.text.now) c.loop-c.walk = subst (λ (w : List ℕ). HasCome a w c.loop-c.walk) all (c.loop-c.invariant.1 size) in
          let same = word_ends p a c.loop-c.walk (chars c.args.text.now) c.members.result.now made come c.members.ensures in
          (λ h. same.0 (ends.0 h), λ w. ends.1 (same.1 w));
    }

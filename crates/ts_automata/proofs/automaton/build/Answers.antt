use Rattle.std.proofs.Common.{◌≡◌, ◌∙◌, ap, subst, List, [], ◌++◌, map}
use Rattle.ts_core.specs.declared.re.Re.{Re}
use Rattle.ts_core.specs.declared.flat.TokenDef.{TokenDef}
use Rattle.spec_lexing.specs.Words.{Regular, regular_of}
use Rattle.ts_automata.specs.Automata.{parts_of, Holds}
use Rattle.ts_automata.proofs.PartLemmas.{parts_none, parts_all}
use Rattle.ts_automata.proofs.automaton.build.Goals as goal

pub returns : goal.returns
returns c =
    let none = parts_none _ _ _ c.new.ensures.items c.new-3.ensures.items c.new-2.ensures.items in
    let one = c.in_ok-add_tokens.ensures [] none in
    let two = c.in_ok-add_separators.ensures (map (λ (t : TokenDef). regular_of t.re) c.as_slice.result.now) one in
    let same : map (λ (t : TokenDef). regular_of t.re) c.as_slice.result.now ++ map regular_of c.as_slice-2.result.now ≡ parts_of c.args.flat.now =
    ap (λ (l : List TokenDef). map (λ (t : TokenDef). regular_of t.re) l ++ map regular_of c.as_slice-2.result.now) c.as_slice.ensures
    ∙ ap (λ (l : List Re). map (λ (t : TokenDef). regular_of t.re) c.args.flat.now.tokens ++ map regular_of l) c.as_slice-2.ensures in
    let have = subst (λ (l : List Regular). Holds c.add_separators.new.automaton l) same two in
    parts_all _ _ _ _ have

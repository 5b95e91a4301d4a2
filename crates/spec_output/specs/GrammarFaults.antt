-- The lines of the faults of a grammar: of its JSON, its form, its normal form, its patterns, its
-- language file and its tables. Running out of memory is no fault and has no line.
use Rattle.std.specs.Prelude.{ℕ, List, map, Option, Some, None, codes}
use Rattle.ts_base.specs.Bytes.{Bytes}
use Rattle.serde_json.specs.Data.{string, no_members, member}
use Rattle.ts_core.specs.declared.symbol.Symbol.{Symbol}
use Rattle.ts_core.specs.declared.flat.FlatGrammar.{FlatGrammar}
use Rattle.ts_core.specs.declared.limits.Limited.{Limited}
use Rattle.ts_core.specs.declared.limits.Limited.TheVariants as limit
use Rattle.ts_core.specs.declared.limits.Unfit.{Unfit}
use Rattle.ts_core.specs.declared.limits.Unfit.TheVariants as unfit
use Rattle.ts_ojson.specs.declared.fault.OFault.{OFault}
use Rattle.ts_ojson.specs.declared.fault.OFault.TheVariants as json
use Rattle.ts_grammar_json.specs.declared.fault.GFault.{GFault}
use Rattle.ts_grammar_json.specs.declared.fault.GFault.TheVariants as form
use Rattle.ts_pattern.specs.declared.fault.PFault.{PFault}
use Rattle.ts_pattern.specs.declared.fault.PFault.TheVariants as pattern
use Rattle.ts_normalise.specs.declared.fault.NFault.{NFault}
use Rattle.ts_normalise.specs.declared.fault.NFault.TheVariants as normal
use Rattle.ts_langfile.specs.declared.fault.LangFault.{LangFault}
use Rattle.ts_langfile.specs.declared.fault.LangFault.TheVariants as file
use Rattle.spec_grammar.specs.Symbols.{node_name}
use Rattle.spec_tables.specs.Conflicts.{owner_of}
use Rattle.spec_output.specs.Lines.{object_line, numeral, text_list}
use Rattle.spec_output.specs.Faults.{with_at, with_fault, with_status, fault_line, at_line}
use Rattle.spec_output.specs.Limits.{limit_name}
use Rattle.spec_output.specs.declared.status.Status.TheVariants.{Grammar}

-- ---- forms

-- a fault of a grammar that says no more than its word
abbrev pub word_line : Bytes → Bytes
word_line word = fault_line word Grammar

-- a fault at a place of the file, or with a number
abbrev pub place_line : Bytes → ℕ → Bytes
place_line word place = at_line (numeral place) word Grammar

-- a fault at a name, or at a pointer into the file
abbrev pub name_line : Bytes → Bytes → Bytes
name_line word name = at_line (string name) word Grammar

-- a fault of the pattern of a rule, at a place of the pattern or with the limit that it passes
abbrev pub pattern_line_at : Bytes → ℕ → Bytes → Bytes
pattern_line_at word place rule =
    object_line (with_at (numeral place) (with_fault word
    (member (codes "rule") (string rule) (with_status Grammar no_members))))

-- ---- what is not read

-- there is too much of something
abbrev pub limit_line : Limited → Bytes
limit_line limited = name_line (codes "limit") (limit_name limited)

-- ---- a file that is no JSON

-- at the place
abbrev pub json_line : OFault → Option Bytes
json_line (json.Syntax place) = Some (place_line (codes "syntax") place)
json_line (json.Utf8 place) = Some (place_line (codes "utf8") place)
json_line (json.Deep place) = Some (place_line (codes "deep") place)
json_line (json.Duplicate place) = Some (place_line (codes "duplicate") place)
json_line json.Memory = None

-- ---- a JSON value that is no grammar

-- at the pointer, where there is one
abbrev pub form_line : GFault → Option Bytes
form_line (form.Missing pointer) = Some (name_line (codes "missing") pointer)
form_line (form.Wrong pointer) = Some (name_line (codes "wrong") pointer)
form_line (form.UnknownType pointer) = Some (name_line (codes "unknown type") pointer)
form_line form.External = Some (word_line (codes "external"))
form_line form.Reserved = Some (word_line (codes "reserved"))
form_line (form.Limit limited) = Some (limit_line limited)
form_line form.Memory = None

-- ---- a grammar that has no normal form

-- a pattern that is not read, with the name of its rule, which is empty for an extra
abbrev pub pattern_line : Bytes → PFault → Option Bytes
pattern_line rule (pattern.Syntax place) =
    Some (pattern_line_at (codes "pattern syntax") place rule)
pattern_line rule (pattern.Unsupported place) =
    Some (pattern_line_at (codes "pattern unsupported") place rule)
pattern_line rule (pattern.EmptyClass place) =
    Some (pattern_line_at (codes "pattern empty class") place rule)
pattern_line rule (pattern.UnknownProperty place) =
    Some (pattern_line_at (codes "pattern property") place rule)
pattern_line rule (pattern.Limit limit) =
    Some (pattern_line_at (codes "pattern limit") limit rule)
pattern_line rule pattern.Memory = None

-- at the name
abbrev pub normal_line : NFault → Option Bytes
normal_line (normal.Undefined name) = Some (name_line (codes "undefined") name)
normal_line (normal.EmptyRule name) = Some (name_line (codes "empty rule") name)
normal_line (normal.EmptyToken name) = Some (name_line (codes "empty token") name)
normal_line (normal.BadInline name) = Some (name_line (codes "bad inline") name)
normal_line (normal.SymbolInToken name) = Some (name_line (codes "symbol in token") name)
normal_line (normal.Cyclic name) = Some (name_line (codes "cyclic") name)
normal_line (normal.NonTerminalExtra name) = Some (name_line (codes "extra") name)
normal_line (normal.Limit limited) = Some (limit_line limited)
normal_line (normal.BadWord name) = Some (name_line (codes "bad word") name)
normal_line (normal.Pattern rule fault) = pattern_line rule fault
normal_line normal.Memory = None

-- ---- a language file

-- A grammar that is not fit: the fault that it would be in a grammar file, at the symbol's name. Of
-- a repetition that derives itself alone its owner's name is told.
abbrev pub misfit_line : FlatGrammar → Unfit → Bytes
misfit_line g (unfit.Repetition symbol) = name_line (codes "bad repetition") (node_name g symbol.0)
misfit_line g (unfit.EmptyRule symbol) = name_line (codes "empty rule") (node_name g symbol.0)
misfit_line g (unfit.EmptyToken symbol) = name_line (codes "empty token") (node_name g symbol.0)
misfit_line g (unfit.Cyclic symbol) =
    name_line (codes "cyclic") (node_name g (owner_of g symbol.0))
misfit_line g unfit.Positions = limit_line limit.Positions

-- At the place, or with the version. What does not begin as a language file is read as a grammar
-- file, so that Magic has no line; that of a misfit takes the names of its grammar.
abbrev pub language_line : LangFault → Option Bytes
language_line file.Magic = None
language_line (file.Version version) = Some (place_line (codes "version") version)
language_line (file.Short place) = Some (place_line (codes "short") place)
language_line (file.Long place) = Some (place_line (codes "long") place)
language_line (file.Field place) = Some (place_line (codes "field") place)
language_line (file.Misfit cause) = None
language_line file.Memory = None

-- ---- tables

-- Several actions on a token that are not declared, with the names of their rules in the order of
-- the symbols, and that of the token.
abbrev pub conflict_line : FlatGrammar → Symbol → List Symbol → Bytes
conflict_line g token rules =
    object_line (with_fault (codes "conflict")
    (member (codes "rules") (text_list (map (λ (rule : Symbol). node_name g rule.0) rules))
    (with_status Grammar
    (member (codes "token") (string (node_name g token.0)) no_members))))

-- What the fault of a part becomes as the fault of a file. Running out of memory stays what it is.
use Rattle.ts_ojson.specs.declared.fault.OFault.{OFault}
use Rattle.ts_ojson.specs.declared.fault.OFault.TheVariants as json
use Rattle.ts_grammar_json.specs.declared.fault.GFault.{GFault}
use Rattle.ts_grammar_json.specs.declared.fault.GFault.TheVariants as form
use Rattle.ts_normalise.specs.declared.fault.NFault.{NFault}
use Rattle.ts_normalise.specs.declared.fault.NFault.TheVariants as normal
use Rattle.ts_langfile.specs.declared.fault.LangFault.{LangFault}
use Rattle.ts_langfile.specs.declared.fault.LangFault.TheVariants as language
use Rattle.ts_front.specs.declared.fault.GrammarFault.{GrammarFault}
use Rattle.ts_front.specs.declared.fault.GrammarFault.TheVariants.{Json, Form, Normal, Language, Memory}

-- what the fault of a JSON text becomes
abbrev pub json_fault : OFault → GrammarFault
json_fault json.Memory = Memory
json_fault (json.Syntax place) = Json (json.Syntax place)
json_fault (json.Utf8 place) = Json (json.Utf8 place)
json_fault (json.Deep place) = Json (json.Deep place)
json_fault (json.Duplicate place) = Json (json.Duplicate place)

-- what the fault of a JSON value as a grammar file becomes
abbrev pub form_fault : GFault → GrammarFault
form_fault form.Memory = Memory
form_fault (form.Missing pointer) = Form (form.Missing pointer)
form_fault (form.Wrong pointer) = Form (form.Wrong pointer)
form_fault (form.UnknownType pointer) = Form (form.UnknownType pointer)
form_fault form.External = Form form.External
form_fault form.Reserved = Form form.Reserved
form_fault (form.Limit limited) = Form (form.Limit limited)

-- what the fault of a grammar without a normal form becomes
abbrev pub normal_fault : NFault → GrammarFault
normal_fault normal.Memory = Memory
normal_fault (normal.Undefined name) = Normal (normal.Undefined name)
normal_fault (normal.EmptyRule name) = Normal (normal.EmptyRule name)
normal_fault (normal.EmptyToken name) = Normal (normal.EmptyToken name)
normal_fault (normal.BadInline name) = Normal (normal.BadInline name)
normal_fault (normal.SymbolInToken name) = Normal (normal.SymbolInToken name)
normal_fault (normal.Cyclic name) = Normal (normal.Cyclic name)
normal_fault (normal.NonTerminalExtra name) = Normal (normal.NonTerminalExtra name)
normal_fault (normal.Limit limited) = Normal (normal.Limit limited)
normal_fault (normal.BadWord name) = Normal (normal.BadWord name)
normal_fault (normal.Pattern rule cause) = Normal (normal.Pattern rule cause)

-- what the fault of a language file becomes
abbrev pub language_fault : LangFault → GrammarFault
language_fault language.Memory = Memory
language_fault language.Magic = Language language.Magic
language_fault (language.Version version) = Language (language.Version version)
language_fault (language.Short place) = Language (language.Short place)
language_fault (language.Long place) = Language (language.Long place)
language_fault (language.Field place) = Language (language.Field place)
language_fault (language.Misfit cause) = Language (language.Misfit cause)

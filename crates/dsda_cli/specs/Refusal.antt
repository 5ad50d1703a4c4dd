-- The printed lines of refusals. Numbers are decimal.
use Rattle.std.specs.Prelude.{ℕ, List, [], ◌∷◌, ◌++◌, codes}
use Rattle.std.specs.Fmt.{decimal}
use Rattle.wad_lumps.specs.declared.fault.WadFault.{WadFault}
use Rattle.wad_lumps.specs.declared.fault.WadFault.TheVariants.{WadHead, WadDir, NoMap, LumpRange}
use Rattle.wad_lumps.specs.declared.fault.WadFault.TheVariants as wad_fault
use Rattle.fixed_angle.specs.declared.fault.TabFault.{TabFault}
use Rattle.fixed_angle.specs.declared.fault.TabFault.TheVariants.{TabHead, TabLength, TabActor}
use Rattle.fixed_angle.specs.declared.fault.TabFault.TheVariants as tables_fault
use Rattle.map_geometry.specs.declared.fault.LevelFault.{LevelFault}
use Rattle.map_geometry.specs.declared.fault.LevelFault.TheVariants.{MapForm, NodesKind, LevelRef, NodeLoop, BlockShape}
use Rattle.map_geometry.specs.declared.fault.LevelFault.TheVariants as level_fault
use Rattle.level_start.specs.declared.fault.StartFault.{StartFault}
use Rattle.level_start.specs.declared.fault.StartFault.TheVariants.{NoStart, Voodoo, ThingUnknown, Doom2Thing, Spitter}
use Rattle.level_start.specs.declared.fault.StartFault.TheVariants as start_fault
use Rattle.lmp_codec.specs.declared.fault.DemoFault.{DemoFault}
use Rattle.lmp_codec.specs.declared.fault.DemoFault.TheVariants.{DemoVersion, DemoHead, DemoCut, DemoLong}
use Rattle.lmp_codec.specs.declared.fault.DemoFault.TheVariants as demo_fault
use Rattle.build_script.specs.declared.fault.Kind.{Kind}
use Rattle.build_script.specs.declared.fault.Kind.TheVariants.{Word, Number, Range, Missing, Space}
use Rattle.build_edits.specs.declared.fault.EditFault.{EditFault}
use Rattle.build_edits.specs.declared.fault.EditFault.TheVariants.{Place, Before, TooLong}
use Rattle.build_edits.specs.declared.fault.EditFault.TheVariants as edit_fault
use Rattle.dsda_cli.specs.declared.fault.InputFault.{InputFault}
use Rattle.dsda_cli.specs.declared.fault.InputFault.TheVariants.{Large, Wad, Tables, Demo, Script, Order, Level, Start, Name, Edit}

-- what is said of a WAD and of a map in it (of want of memory nothing ever is)
abbrev pub wad_text : WadFault → List ℕ
wad_text WadHead = codes "wad head"
wad_text WadDir = codes "wad directory"
wad_text NoMap = codes "no map"
wad_text (LumpRange entry) = codes "lump " ++ decimal entry
wad_text wad_fault.Memory = []

-- what is said of a table file (of want of memory nothing ever is)
abbrev pub tables_text : TabFault → List ℕ
tables_text TabHead = codes "tables head"
tables_text TabLength = codes "tables length"
tables_text (TabActor place) = codes "tables kind " ++ decimal place
tables_text tables_fault.Memory = []

-- what is said of a level (of want of memory nothing ever is)
abbrev pub level_text : LevelFault → List ℕ
level_text MapForm = codes "map form"
level_text NodesKind = codes "nodes kind"
level_text (LevelRef lump entry) = codes "level lump " ++ decimal lump ++ (codes " entry " ++ decimal entry)
level_text NodeLoop = codes "node loop"
level_text BlockShape = codes "block shape"
level_text level_fault.Memory = []

-- what is said of a level that can't be started (of want of memory nothing ever is)
abbrev pub start_text : StartFault → List ℕ
start_text NoStart = codes "no start"
start_text Voodoo = codes "voodoo"
start_text (ThingUnknown place number) = codes "thing " ++ decimal place ++ (codes " number " ++ decimal number)
start_text (Doom2Thing place) = codes "doom2 thing " ++ decimal place
start_text (Spitter place) = codes "spitter " ++ decimal place
start_text start_fault.Memory = []

-- what is said of a demo (of want of memory nothing ever is)
abbrev pub demo_text : DemoFault → List ℕ
demo_text (DemoVersion version) = codes "demo version " ++ decimal version
demo_text (DemoHead place) = codes "demo head " ++ decimal place
demo_text (DemoCut len) = codes "demo cut at " ++ decimal len
demo_text DemoLong = codes "demo long"
demo_text demo_fault.Memory = []

-- what is said of a line of the script
abbrev pub kind_text : Kind → List ℕ
kind_text Word = codes "word"
kind_text Number = codes "number"
kind_text Range = codes "range"
kind_text Missing = codes "missing"
kind_text Space = codes "space"

-- what is said of an edit (of want of memory nothing ever is)
abbrev pub edit_text : EditFault → List ℕ
edit_text (Place count) = codes "place " ++ decimal count
edit_text Before = codes "before"
edit_text TooLong = codes "long"
edit_text edit_fault.Memory = []

-- what is said of a fault
abbrev pub text_of : InputFault → List ℕ
text_of (Large word) = codes "word " ++ decimal word ++ codes " too large"
text_of (Wad fault) = wad_text fault
text_of (Tables fault) = tables_text fault
text_of (Demo fault) = demo_text fault
text_of (Script line kind) = codes "line " ++ decimal line ++ codes ": " ++ kind_text kind
text_of (Order place) = codes "order at " ++ decimal place
text_of (Level fault) = level_text fault
text_of (Start fault) = start_text fault
text_of (Name line) = codes "line " ++ decimal line ++ codes ": name"
text_of (Edit line fault) = codes "line " ++ decimal line ++ codes ": " ++ edit_text fault

-- the line that stands in place of the report
abbrev pub line_of : InputFault → List ℕ
line_of fault = codes "refused: " ++ text_of fault ++ 10 ∷ []

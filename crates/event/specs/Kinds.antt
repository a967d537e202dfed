-- The kinds of events, as the program's types.
use Rattle.std.specs.Prelude.{ℕ, ◌≡◌, cond}
use Rattle.model.specs.Event.{tick, create, ready, block, set_priority, end, resume, known, names_thread, names_place, names_priority}
use Rattle.event.specs.declared.kinds.Action.{Action}
use Rattle.event.specs.declared.kinds.Action.TheVariants.{Unknown, Tick, Create, Ready, Block, SetPriority, End, Resume}
use Rattle.event.specs.declared.kinds.Uses.{Uses}
use Rattle.event.specs.declared.kinds.Form.{Form}

-- the number of each action's kind. 0 stands for all that are unknown: "Kind 0 and kinds 8 to 255 are unknown"
abbrev pub kind_number : Action → ℕ
kind_number Unknown = 0
kind_number Tick = tick
kind_number Create = create
kind_number Ready = ready
kind_number Block = block
kind_number SetPriority = set_priority
kind_number End = end
kind_number Resume = resume

-- the column "uses" of the table of kinds
unfoldable pub uses_of : ℕ → Uses
uses_of k = record { known = known k; thread = names_thread k; place = names_place k; priority = names_priority k }

-- the action and the uses of a kind byte
pub record FormOf (kind : ℕ) (form : Form) : Type 0 where
  pub action : kind_number form.action ≡ cond (known kind) kind 0
  pub uses : form.uses ≡ uses_of kind

-- An action and the number of its kind: what a caller of Form::from knows of the kind byte, where it matches on the action.
use mathlib.Core.Path.{◌≡◌, refl, sym, ap, subst, ◌∙◌}
use Prim.Native.Nat.{ℕ, ◌<◌}
use mathlib.Core.Bool.{Bool, true, false, not, cond}
use mathlib.Core.List.{List}
use native.Mathlib.Omega.{arith}
use lib.Dec.{T, eqb}
use borrow.Author.Tests.{ne_eqb}
use denote.Enum.Declared.{tag_of}
use mir.Val.{has_key}
use types.Run.{OneOf, miss}
use Rattle.model.specs.Event.{known}
use Rattle.event.specs.contracts.kinds.Action
use Rattle.event.specs.declared.kinds.Action.{Action}
use Rattle.event.specs.declared.kinds.Action.TheVariants.{Unknown, Tick, Create, Ready, Block, SetPriority, End, Resume}
use Rattle.event.specs.Kinds.{kind_number}

-- the cases are declared in the order of their numbers
pub tag_number : (a : Action) → tag_of Action.the_type a ≡ kind_number a
tag_number Unknown = refl
tag_number Tick = refl
tag_number Create = refl
tag_number Ready = refl
tag_number Block = refl
tag_number SetPriority = refl
tag_number End = refl
tag_number Resume = refl

-- the kind of an action that is told
pub told : (r a : Action) (k : ℕ) → kind_number r ≡ cond (known k) k 0 → r ≡ a → 0 < kind_number a → k ≡ kind_number a
told r a k e t h = go (known k) (sym e ∙ ap kind_number t)
  where
    go : (b : Bool) → cond b k 0 ≡ kind_number a → k ≡ kind_number a
    go true q = q
    go false q = let w : ⊥ = omega arith in absurd w

-- what the kind is not, where the action is one of some others
pub told_not : (r : Action) (k m : ℕ) (ks : List ℕ) → kind_number r ≡ cond (known k) k 0 → known m ≡ true → OneOf ks (tag_of Action.the_type r)
    → T (not (has_key ks m)) → eqb k m ≡ false
told_not r k m ks e f o h = ne_eqb k m (λ q. miss ks m h (subst (λ (x : ℕ). OneOf ks x) (tag_number r ∙ e ∙ rw (q, f)) o))

-- `driven::drive` meets its contract: each event is the method of its name.
use Rattle.driven.proofs.Makes.{makes_found}
use Rattle.driven.proofs.drive.Goals as goal

pub returns-in-Add : goal.returns-in-Add
returns-in-Add c = makes_found _ _ _ _ _ c.in-Add.is c.open_add.ensures

pub returns-in-PopUsed : goal.returns-in-PopUsed
returns-in-PopUsed c = makes_found _ _ _ _ _ c.in-PopUsed.is c.open_pop.ensures

pub returns-in-PeekUsed : goal.returns-in-PeekUsed
returns-in-PeekUsed c = makes_found _ _ _ _ _ c.in-PeekUsed.is c.open_peek.ensures

pub returns-in-CanPop : goal.returns-in-CanPop
returns-in-CanPop c = makes_found _ _ _ _ _ c.in-CanPop.is c.can_pop.ensures

pub returns-in-ShouldNotify : goal.returns-in-ShouldNotify
returns-in-ShouldNotify c = makes_found _ _ _ _ _ c.in-ShouldNotify.is c.should_notify.ensures

pub returns-in-AvailableDesc : goal.returns-in-AvailableDesc
returns-in-AvailableDesc c = makes_found _ _ _ _ _ c.in-AvailableDesc.is (c.available.ensures _)

pub returns-in-SetDevNotify : goal.returns-in-SetDevNotify
returns-in-SetDevNotify c = makes_found _ _ _ _ _ c.in-SetDevNotify.is c.set_dev_notify.ensures

pub returns-in-Step : goal.returns-in-Step
returns-in-Step c = makes_found _ _ _ _ _ c.in-Step.is c.step.ensures

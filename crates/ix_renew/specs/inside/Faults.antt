-- Why a journal wasn't renewed, by what a part of the renewal answers.
use Rattle.std.specs.Prelude.{ℕ}
use Rattle.ix_engine.specs.declared.faults.PrepareFault.{PrepareFault}
use Rattle.ix_engine.specs.declared.faults.PrepareFault.TheVariants as prepare
use Rattle.ix_step.specs.declared.fault.BuildFault.{BuildFault}
use Rattle.ix_step.specs.declared.fault.BuildFault.TheVariants as build
use Rattle.ix_store.specs.declared.making.RenewFault.{RenewFault}
use Rattle.ix_store.specs.declared.making.RenewFault.TheVariants as making
use Rattle.ix_renew.specs.declared.fault.RenewalFault.{RenewalFault}
use Rattle.ix_renew.specs.declared.fault.RenewalFault.TheVariants as fault

-- where no engine was made
abbrev pub engine_fault_of : BuildFault → RenewalFault
engine_fault_of (build.Over limit) = fault.Large limit
engine_fault_of build.Memory = fault.Memory

-- where the engine didn't take the action of the record of this number
abbrev pub action_fault_of : ℕ → PrepareFault → RenewalFault
action_fault_of number prepare.NotPartial = fault.Word number
action_fault_of number prepare.Full = fault.Many
action_fault_of number (prepare.Over limit) = fault.Heavy number limit
action_fault_of number prepare.Memory = fault.Memory

-- where the new journal wasn't made
abbrev pub making_fault_of : RenewFault → RenewalFault
making_fault_of making.There = fault.There
making_fault_of making.Disk = fault.Disk
making_fault_of making.Memory = fault.Memory

-- The two hosts of a case.
use Rattle.case_forms.specs.declared.calls.Host.{Host}
use Rattle.case_forms.specs.declared.calls.Host.TheVariants.{Zero, One}

-- the other of the two hosts
abbrev pub other : Host → Host
other Zero = One
other One = Zero

-- The fixed systems' lines, as the code has them.
use mathlib.Core.Path.{◌≡◌, refl}
use mathlib.Core.List.{[], ◌++◌}
use Rattle.model.specs.Ascii.{ascii}
use Rattle.model.specs.Memory.{fixed_ref}
use Rattle.model.specs.Reply.{system_line, link_line, resultant_line}
use Rattle.model.proofs.Open.{definitions_open}
use Rattle.reply.specs.Types.{Group, Operating, Orientational, Levelling}
use Rattle.reply.specs.Values.{by_group}
use Rattle.reply.specs.Lines.{further, fixed_lines}

pub fixed_systems : fixed_lines (system_line []) ≡ ascii "Name=ZERO Type=ZERO X=0.000000 Y=0.000000 Z=0.000000 U=0.000000 V=0.000000 W=0.000000"
    ++ (further (ascii "Name=PI_BASE Type=KSB(PI) X=0.000000 Y=0.000000 Z=0.000000 U=0.000000 V=0.000000 W=0.000000")
    ++ further (ascii "Name=PI_LEVELLING Type=KLD(PI) X=0.000000 Y=0.000000 Z=0.000000 U=0.000000 V=0.000000 W=0.000000"))
unfolding definitions_open
fixed_systems = refl

pub fixed_links : fixed_lines (link_line []) ≡ ascii "ZERO=ZERO"
    ++ (further (ascii "PI_BASE=HEXAPOD")
    ++ further (ascii "PI_LEVELLING=HEXAPOD"))
unfolding definitions_open
fixed_links = refl

pub fixed_resultants : fixed_lines (resultant_line []) ≡ ascii "Name=ZERO EndCoordinateSystem=ZERO X=0.000000 Y=0.000000 Z=0.000000 U=0.000000 V=0.000000 W=0.000000 Steps=0"
    ++ (further (ascii "Name=PI_BASE EndCoordinateSystem=HEXAPOD X=0.000000 Y=0.000000 Z=0.000000 U=0.000000 V=0.000000 W=0.000000 Steps=0")
    ++ further (ascii "Name=PI_LEVELLING EndCoordinateSystem=HEXAPOD X=0.000000 Y=0.000000 Z=0.000000 U=0.000000 V=0.000000 W=0.000000 Steps=0"))
unfolding definitions_open
fixed_resultants = refl

-- of one of them
pub fixed_resultant : (g : Group) → resultant_line [] (fixed_ref g) ≡ by_group g
    (ascii "Name=ZERO EndCoordinateSystem=ZERO X=0.000000 Y=0.000000 Z=0.000000 U=0.000000 V=0.000000 W=0.000000 Steps=0")
    (ascii "Name=PI_BASE EndCoordinateSystem=HEXAPOD X=0.000000 Y=0.000000 Z=0.000000 U=0.000000 V=0.000000 W=0.000000 Steps=0")
    (ascii "Name=PI_LEVELLING EndCoordinateSystem=HEXAPOD X=0.000000 Y=0.000000 Z=0.000000 U=0.000000 V=0.000000 W=0.000000 Steps=0")
unfolding definitions_open
fixed_resultant Operating = refl
fixed_resultant Orientational = refl
fixed_resultant Levelling = refl

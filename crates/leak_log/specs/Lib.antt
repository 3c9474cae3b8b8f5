-- What the contracts of `leak_log` cite. A reviewer reads LeakOutput, Opens, then Feeding and Taking.
pub mod LeakOutput
pub mod Opens
pub mod Feeding
pub mod Taking

mod Converting
